-- A movement of a statement and its complements, as the code comes to them.
use mathlib.Core.Path.{◌≡◌, refl, sym, ap, ◌∙◌}
use Rattle.std.proofs.lemmas.Option.{none-some, same_Some}
use mathlib.Core.Bool.{Bool, true, false, ◌||◌}
use mathlib.Core.List.{List, [], ◌∷◌}
use Prim.Native.Nat.{ℕ, zero, suc, ◌+◌, ◌-◌, ◌*◌, ◌<◌, ◌≤◌}
use native.Mathlib.Nat.{add-zero, one-mul, add-mul}
use native.Mathlib.Omega.{arith}
use lib.Dec.{eqb, ltb}
use lib.ListN.{length, take, drop, get_or}
use lib.Seq.{drop-cons, drop-drop}
use borrow.Author.Tests.{eq-eqb, ne_eqb, lt-ltb, le-ltb, eqb-false, ltb-false}
use Rattle.zones.specs.Choice.{pick}
use Rattle.layouts.specs.Zone.{part}
use Rattle.framing.specs.declared.Form.{Form}
use Rattle.framing.specs.Files.{line_end, width_of}
use Rattle.grammar.specs.declared.Key.{Key}
use Rattle.grammar.specs.Record.{Posting, Rec, movement, complement, closing}
use Rattle.grammar.specs.Statements.{Movement, Statement, sizes, all_records}
use Rattle.grammar.specs.Files.{Reads, statements_of, check_of}
use Rattle.grammar.specs.Parts.{records_before, no_statement}
use Rattle.grammar.proofs.Rows.{adds_then, moves_then}
use Rattle.records.specs.July.{record_size, repeats, posting_in, decode_record, coding_of, edition_of}
use Rattle.fields.specs.Rows.{row_of, row_at_of}
use Rattle.fields.specs.declared.Movement as Fields
use Rattle.std.specs.Prelude.{Some, None, Result, Ok, Err}
use Rattle.framing.specs.Refusals.{refusal_by}
use Rattle.framing.specs.declared.refusals.Reason.TheVariants.{NoSuchMovement}
use Rattle.framing.specs.declared.refusals.Refusal.{Refusal}
use Rattle.readers.specs.declared.Place.{Place}
use Rattle.readers.specs.declared.Step.{Step}
use Rattle.records.specs.Looks.{judged_as}
use Rattle.records.specs.declared.Kind.{Kind}
use Rattle.records.specs.declared.Kind.TheVariants.{Opening, Movement as movement_kind, Complement, Closing}
use Rattle.grammar.specs.Answer.{Answer, accepted, refused}
use Rattle.records.proofs.Theorems.{counts, reads}
use Rattle.statements.proofs.Modes.{stands, decoded}
use Rattle.readers.specs.Places.{place_of, bytes_at}
use Rattle.readers.specs.Steps.{found_step, step_of, next_of}
use Rattle.readers.proofs.Movements.{before, rest, movement_there}
use Rattle.readers.proofs.Placed.{part_there, part_alone}
use Rattle.contents.specs.Heads.{record_at_of, head_among, head_in, movements_in, statements_in}
use Rattle.contents.specs.Movements.{no_movement, outside, movement_among, text_among, complement_among, movement_in, complement_in, steps_after, movement_place}
use Rattle.contents.specs.declared.Summary.{Summary}
use Rattle.contents.proofs.Records.{HoldsAt, whole_inside, record_there}
use Rattle.contents.proofs.Heading.{count_there}

-- one movement after another: some are behind
pub steps_on : (f : Form) (b : List ℕ) (skip behind at : ℕ) {next : ℕ} → behind < skip → next ≡ next_of (length b) (step_of b f at)
    → steps_after f b (skip - (behind + 1)) next ≡ steps_after f b (skip - behind) at
unfolding steps_after
steps_on f b skip behind at h e =
    let z : skip - behind ≡ suc (skip - (behind + 1)) = omega arith in
    rw (z, e)

pub steps_none : (f : Form) (b : List ℕ) (skip behind at : ℕ) → skip ≤ behind → at ≡ steps_after f b (skip - behind) at
unfolding steps_after
steps_none f b skip behind at h =
    let z : skip - behind ≡ 0 = omega arith in
    rw z

-- the values of a 04 and of a 05
posted : (b : List ℕ) {k : Key} {p : Posting} → decode_record b ≡ movement k p → posting_in b ≡ p
posted b {k} {p} e = by (judged_as b) (decoded b)
  where
    by : (c : Kind) → decode_record b ≡ stands c b → posting_in b ≡ p
    by movement_kind g = let z = sym g ∙ e in cc
    by Opening g = absurd (let y = sym g ∙ e in let z : ◌≡◌ {A = ℕ} 0 1 = cc in omega arith)
    by Complement g = absurd (let y = sym g ∙ e in let z : ◌≡◌ {A = ℕ} 0 1 = cc in omega arith)
    by Closing g = absurd (let y = sym g ∙ e in let z : ◌≡◌ {A = ℕ} 0 1 = cc in omega arith)

pub row_held : (b : List ℕ) {k : Key} {p : Posting} (n : ℕ) → length b ≡ record_size → decode_record b ≡ movement k p → row_at_of b n ≡ row_of p n
unfolding row_at_of
row_held b n l e = rw (eq-eqb (length b) record_size l) (ap (λ p. row_of p n) (posted b e))

texted : (b : List ℕ) {e t : List ℕ} → decode_record b ≡ complement e t → part 46 118 b ≡ t
texted b {e} {t} h = by (judged_as b) (decoded b)
  where
    by : (c : Kind) → decode_record b ≡ stands c b → part 46 118 b ≡ t
    by Complement g = let z = sym g ∙ h in cc
    by Opening g = absurd (let y = sym g ∙ h in let z : ◌≡◌ {A = ℕ} 0 1 = cc in omega arith)
    by movement_kind g = absurd (let y = sym g ∙ h in let z : ◌≡◌ {A = ℕ} 0 1 = cc in omega arith)
    by Closing g = absurd (let y = sym g ∙ h in let z : ◌≡◌ {A = ℕ} 0 1 = cc in omega arith)

-- the j-th of some 05, from 0
add_at : (e : List ℕ) (ts : List (List ℕ)) (l : List Rec) (j : ℕ) → j < length ts → (r : List Rec) × (drop j (adds_then e ts l) ≡ complement e (get_or ts j []) ∷ r)
add_at e [] l j h = absurd (omega arith)
add_at e (t ∷ ts) l zero h = (adds_then e ts l, refl)
add_at e (t ∷ ts) l (suc j) h = add_at e ts l j (omega arith)

in_range : (i n : ℕ) → outside i n ≡ false → (i ≡ 0 → ⊥) × (i ≤ n)
in_range i n e = by (eqb i 0) (ltb n i) refl refl e
  where
    by : (t u : Bool) → eqb i 0 ≡ t → ltb n i ≡ u → (t || u) ≡ false → (i ≡ 0 → ⊥) × (i ≤ n)
    by true u p q g = absurd (let z : true ≡ false = g in let y : ◌≡◌ {A = ℕ} 0 1 = cc in omega arith)
    by false true p q g = absurd (let z : true ≡ false = g in let y : ◌≡◌ {A = ℕ} 0 1 = cc in omega arith)
    by false false p q g = (eqb-false i 0 p, ltb-false n i q)

module _ {f : Form} {b : List ℕ} {s : Statement} (r : Reads (coding_of f) f b (s ∷ [])) where
  abbrev ms : List Movement
  ms = s.movements

  abbrev w : ℕ
  w = width_of record_size f

  abbrev first_only : 0 < length (s ∷ [])
  first_only = omega arith

  -- the number of records before movement i, from 0
  abbrev up_to : ℕ → ℕ
  up_to i = before r 0 first_only i

  -- j movements on
  walked_on : (j i : ℕ) → i + j ≤ length ms → steps_after f b j (up_to i * w) ≡ up_to (i + j) * w
  unfolding steps_after
  walked_on zero i h = rw (add-zero i)
  walked_on (suc j) i h =
      let z : i + 1 + j ≡ i + suc j = omega arith in
      rw (movement_there r 0 first_only i (drop-cons ms i no_movement (omega arith))) (walked_on j (i + 1) (omega arith) ∙ ap (λ n. up_to n * w) z)

  pub start : record_size + line_end f ≡ up_to 0 * w
  unfolding records_before sizes width_of
  start = sym (one-mul (record_size + line_end f))

  -- the 01 stands before every movement
  later : (i : ℕ) → 0 < up_to i * w
  unfolding width_of
  later i = omega (arith, add-mul (records_before 0 (s ∷ [])) (1 + sizes (take i ms)) (record_size + line_end f), add-mul 1 (sizes (take i ms)) (record_size + line_end f))

  -- the code's place of movement i, from 1: none
  module _ (i : ℕ) (e : None ≡ movement_place f b i) where
    none_there : outside i (length ms) ≡ true
    unfolding movement_place
    none_there = by (outside i (length ms)) refl (rw (count_there r) at e)
      where
        by : (t : Bool) → outside i (length ms) ≡ t → None ≡ pick (outside i (length ms)) None (Some (steps_after f b (i - 1) (record_size + line_end f)))
            → outside i (length ms) ≡ true
        by true g p = g
        by false g p = absurd (none-some _ (rw g at p))

    -- 17
    pub no_movement_lem : Err (refusal_by NoSuchMovement 0) ≡ movement_among ms i
    unfolding movement_among
    no_movement_lem = sym (rw none_there)

    pub no_complements : (j : ℕ) → Err (refusal_by NoSuchMovement 0) ≡ complement_among ms i j
    unfolding complement_among
    no_complements j = sym (rw none_there)

  -- the place of a movement that is there
  module _ (i : ℕ) {at : ℕ} (e : Some at ≡ movement_place f b i) where
    some_there : outside i (length ms) ≡ false
    unfolding movement_place
    some_there = by (outside i (length ms)) refl (rw (count_there r) at e)
      where
        by : (t : Bool) → outside i (length ms) ≡ t → Some at ≡ pick (outside i (length ms)) None (Some (steps_after f b (i - 1) (record_size + line_end f)))
            → outside i (length ms) ≡ false
        by false g p = g
        by true g p = absurd (none-some _ (sym (rw g at p)))

    place_in : at ≡ up_to (i - 1) * w
    unfolding movement_place
    place_in =
        let o = in_range i (length ms) some_there in
        let u = o.0 in
        let q : Some at ≡ Some (steps_after f b (i - 1) (record_size + line_end f)) = rw (count_there r, some_there) at e in
        let z : 0 + (i - 1) ≡ i - 1 = omega arith in
        same_Some _ _ q ∙ rw start (walked_on (i - 1) 0 (omega (arith, o.1)) ∙ ap (λ n. up_to n * w) z)

    abbrev m : Movement
    m = get_or ms (i - 1) no_movement

    inside : i - 1 < length ms
    inside =
        let o = in_range i (length ms) some_there in
        let u = o.0 in
        omega (arith, o.1)

    -- the step there
    step_is : step_of b f at ≡ Some (found_step (length m.complements) (up_to (i - 1 + 1) * w))
    step_is = rw (place_in) (movement_there r 0 first_only (i - 1) (drop-cons ms (i - 1) no_movement inside))

    -- the records there
    records_there : (l : List Rec) × (drop (up_to (i - 1)) (all_records (edition_of f) (s ∷ []))
        ≡ movement s.key m.posting ∷ adds_then (repeats s.key m.posting) m.complements l)
    records_there = (
      moves_then (edition_of f) s.key (drop (suc (i - 1)) ms) (closing s.key s.new_date s.new_balance ∷ (rest r 0 first_only (i - 1)).0),
      (rest r 0 first_only (i - 1)).1 ∙ rw (drop-cons ms (i - 1) no_movement inside),
    )

    movement_here : HoldsAt b at (movement s.key m.posting)
    movement_here = rw (place_in) (record_there r (up_to (i - 1)) records_there.1)

    -- a step stands there
    pub step_there : None ≡ step_of b f at → ⊥
    step_there q = none-some _ (q ∙ step_is)

    many : {x : Step} → Some x ≡ step_of b f at → x.complements ≡ length m.complements
    many q = ap (λ y. y.complements) (same_Some _ _ (q ∙ step_is))

    -- the row that the code answers
    pub row_there : {o : List ℕ} {x : Fields.Movement} {y : Step} → o ≡ record_at_of b at → Some y ≡ step_of b f at → x ≡ row_at_of o y.complements
        → Ok x ≡ movement_among ms i
    unfolding movement_among
    row_there {o} {x} {y} p q u =
        let n = y.complements in
        let v : x ≡ row_of m.posting n = u ∙ ap (λ y. row_at_of y n) p ∙ row_held (record_at_of b at) n movement_here.whole movement_here.values in
        rw (some_there, ← many q, v)

    module _ (j : ℕ) {y : Step} (q : Some y ≡ step_of b f at) where
      abbrev ts : List (List ℕ)
      ts = m.complements

      -- 17
      pub no_complement : outside j y.complements ≡ true → Err (refusal_by NoSuchMovement 0) ≡ complement_among ms i j
      unfolding complement_among text_among
      no_complement g = sym (rw (some_there, ← many q, g))

      module _ (g : outside j y.complements ≡ false) where
        within : (j ≡ 0 → ⊥) × (j ≤ length ts)
        within = let l = many q in rw l at (in_range j y.complements g)

        last_one : j - 1 < length ts
        last_one =
            let u = within.0 in
            omega (arith, within.1)

        text_records : (l : List Rec) × (drop (up_to (i - 1) + j) (all_records (edition_of f) (s ∷ []))
            ≡ complement (repeats s.key m.posting) (get_or ts (j - 1) []) ∷ l)
        text_records =
            let u = within.0 in
            let z : j ≡ suc (j - 1) = omega arith in
            let l = add_at (repeats s.key m.posting) ts records_there.0 (j - 1) last_one in
            (l.0, sym (drop-drop j (up_to (i - 1)) (all_records (edition_of f) (s ∷ []))) ∙ rw records_there.1 (ap (λ k. drop k (movement s.key m.posting ∷ adds_then (repeats s.key m.posting) ts records_there.0)) z ∙ l.1))

        pub text_here : HoldsAt b (at + j * (record_size + line_end f)) (complement (repeats s.key m.posting) (get_or ts (j - 1) []))
        unfolding width_of
        text_here =
            let z : at + j * (record_size + line_end f) ≡ (up_to (i - 1) + j) * w =
            rw (place_in) (sym (add-mul (up_to (i - 1)) j (record_size + line_end f))) in
            rw z (record_there r (up_to (i - 1) + j) text_records.1)

        -- it lies in the part
        pub text_inside : at + j * (record_size + line_end f) + record_size ≤ length b
        text_inside = whole_inside b (at + j * (record_size + line_end f)) text_here.whole

        module _ {o : List ℕ} (p : o ≡ record_at_of b (at + j * (record_size + line_end f))) where
          pub text_whole : length o ≡ record_size
          text_whole = ap length p ∙ text_here.whole

          -- the text that the code answers
          pub text_there : {t : List ℕ} → t ≡ part 46 118 o → Ok t ≡ complement_among ms i j
          unfolding complement_among text_among
          text_there {t} u =
              let v : t ≡ get_or ts (j - 1) [] = u ∙ ap (part 46 118) p ∙ texted _ text_here.values in
              rw (some_there, ← many q, g, v)

-- the place of a movement, as the code comes to it
module _ (f : Form) (b : List ℕ) (i : ℕ) where
  pub place_zero : i ≡ 0 → None ≡ movement_place f b i
  unfolding movement_place
  place_zero z = sym (rw (eq-eqb i 0 z))

  module _ {n : ℕ} (o : i ≡ 0 → ⊥) (e : n ≡ movements_in (check_of (coding_of f) f b)) where
    pub place_over : n < i → None ≡ movement_place f b i
    unfolding movement_place
    place_over h = sym (rw (← e, ne_eqb i 0 o, lt-ltb n i h))

    pub place_walked : {r : ℕ} → i ≤ n → r ≡ steps_after f b (i - 1) (record_size + line_end f) → Some r ≡ movement_place f b i
    unfolding movement_place
    place_walked h q = ap Some q ∙ sym (rw (← e, ne_eqb i 0 o, le-ltb n i h))

-- a part where the check counts one statement is that statement's
pub record Single (f : Form) (b : List ℕ) : Type 0 where
  pub one : Statement
  pub alone : Reads (coding_of f) f b (one ∷ [])

pub single_of : (f : Form) (b : List ℕ) → statements_in (check_of (coding_of f) f b) ≡ 1 → Single f b
single_of f b e = by (check_of (coding_of f) f b) refl e
  where
    of : (ss : List Statement) → Reads (coding_of f) f b ss → length ss ≡ 1 → Single f b
    of [] r l = absurd (omega arith)
    of (s ∷ []) r l = record { one = s; alone = r }
    of (s ∷ t ∷ ss) r l = absurd (omega arith)

    by : (a : Answer) → check_of (coding_of f) f b ≡ a → statements_in a ≡ 1 → Single f b
    by (accepted c) p q = of (statements_of (coding_of f) f b) (reads f b p) (ap statements_in (sym (counts (reads f b p)) ∙ p) ∙ q)
    by (refused n r) p q = absurd (omega arith)

pub single_end : (f : Form) (b : List ℕ) → statements_in (check_of (coding_of f) f b) ≡ 1 → line_end f ≤ 2
single_end f b e = ltb-false 2 (line_end f) (single_of f b e).alone.line

-- the part that the code hands on, and the answers on it
module _ (f : Form) (b : List ℕ) (k : ℕ) where
  module _ {p : Place} (e : Ok p ≡ place_of f b k) where
    abbrev cut : List ℕ
    cut = bytes_at p b

    pub cut_reads : Reads (coding_of f) f cut (get_or (statements_of (coding_of f) f b) (k - 1) no_statement ∷ [])
    cut_reads = rw (part_there f b k e) (part_alone f b k e)

    pub single_part : statements_in (check_of (coding_of f) f cut) ≡ 1
    single_part = ap statements_in (counts cut_reads)

    pub headed_part : {r : Summary} → ((s : Statement) → Reads (coding_of f) f cut (s ∷ []) → r ≡ head_among s) → Ok r ≡ head_in f b k
    unfolding head_in
    headed_part g = ap Ok (g _ cut_reads) ∙ rw (← e)

    pub moved : (i : ℕ) {r : Result Fields.Movement Refusal} → ((s : Statement) → Reads (coding_of f) f cut (s ∷ []) → r ≡ movement_among s.movements i) → r ≡ movement_in f b k i
    unfolding movement_in
    moved i g = g _ cut_reads ∙ rw (← e)

    pub complemented : (i j : ℕ) {r : Result (List ℕ) Refusal} → ((s : Statement) → Reads (coding_of f) f cut (s ∷ []) → r ≡ complement_among s.movements i j) → r ≡ complement_in f b k i j
    unfolding complement_in
    complemented i j g = g _ cut_reads ∙ rw (← e)

  module _ {e : Refusal} (q : Err e ≡ place_of f b k) where
    pub not_moved : (i : ℕ) → Err e ≡ movement_in f b k i
    unfolding movement_in
    not_moved i = rw (← q)

    pub not_complemented : (i j : ℕ) → Err e ≡ complement_in f b k i j
    unfolding complement_in
    not_complemented i j = rw (← q)
