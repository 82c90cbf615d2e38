-- In an accepted file the step goes from movement to movement, and finds none at the 07.
use mathlib.Core.Path.{◌≡◌, refl, sym, ap, ap₂, ◌∙◌}
use Rattle.std.specs.Prelude.{Option, Some, None}
use mathlib.Core.List.{List, [], ◌∷◌, map}
use Prim.Native.Nat.{ℕ, zero, suc, ◌+◌, ◌*◌, ◌<◌}
use native.Mathlib.Nat.{add-zero, zero-add, zero-mul, suc-mul, add-mul}
use native.Mathlib.Numerals.{add-one}
use native.Mathlib.Omega.{arith}
use lib.ListN.{length, take, drop, get_or}
use lib.Seq.{drop-cons, drop-drop, drop-length}
use lib.IntN.{ℤ}
use Rattle.zones.specs.Choice.{pick}
use Rattle.framing.specs.declared.Form.{Form}
use Rattle.framing.specs.Files.{All, width_of}
use Rattle.grammar.specs.declared.Key.{Key}
use Rattle.grammar.specs.Record.{Rec, closing, is_movement, is_complement}
use Rattle.grammar.specs.Statements.{Movement, Statement, sizes, all_records}
use Rattle.grammar.specs.Files.{Fine, rec_of, pieces, Reads}
use Rattle.grammar.specs.Parts.{records_before, no_statement}
use Rattle.grammar.proofs.Parts.{drop_before}
use Rattle.grammar.proofs.Rows.{adds_then, moves_then, all_cons}
use Rattle.records.specs.July.{record_size, coding_of, edition_of}
use Rattle.readers.specs.declared.Step.{Step}
use Rattle.readers.specs.Steps.{found_step, step_over, step_in, step_of}
use Rattle.readers.proofs.Codes.{told}
use Rattle.readers.proofs.Rows.{drop_adds, pieces_from, records_from, fine_from}

-- the walk over records as values
module _ (f : Form) (w : ℕ) where
  abbrev over_among : (n at : ℕ) → List Rec → Step
  over_among n at [] = found_step n at
  over_among n at (r ∷ rs) = pick (is_complement r) (over_among (n + 1) (at + w) rs) (found_step n at)

  over_pieces : (ps : List (List ℕ)) → All (λ p. Fine (coding_of f) (take record_size p)) ps → (n at : ℕ) → step_over w n at ps ≡ over_among n at (map (rec_of (coding_of f)) ps)
  unfolding step_over
  over_pieces [] o n at = refl
  over_pieces (p ∷ ps) o n at = rw ((told f p o.0).five, over_pieces ps o.1 (n + 1) (at + w))

  -- 05 are counted
  over_adds : (e : List ℕ) (ts : List (List ℕ)) (l : List Rec) (n at : ℕ) → over_among n at (adds_then e ts l) ≡ over_among (n + length ts) (at + length ts * w) l
  over_adds e [] l n at = rw (zero-mul w, add-zero n, add-zero at)
  over_adds e (t ∷ ts) l n at =
      let p : n + 1 + length ts ≡ n + suc (length ts) = omega arith in
      let q : at + w + length ts * w ≡ at + suc (length ts) * w = omega (arith, suc-mul (length ts) w) in
      over_adds e ts l (n + 1) (at + w) ∙ ap₂ (λ x y. over_among x y l) p q

  -- up to the next 04 or the 07
  over_next : (k : Key) (ms : List Movement) (c : Key) (d : ℕ) (a : ℤ) (l : List Rec) (n at : ℕ)
      → over_among n at (moves_then (edition_of f) k ms (closing c d a ∷ l)) ≡ found_step n at
  over_next k [] c d a l n at = refl
  over_next k (m ∷ ms) c d a l n at = refl

  abbrev step_among : (at : ℕ) → List Rec → Option Step
  step_among at [] = None
  step_among at (r ∷ rs) = pick (is_movement r) (Some (over_among 0 (at + w) rs)) None

  step_pieces : (ps : List (List ℕ)) → All (λ p. Fine (coding_of f) (take record_size p)) ps → (at : ℕ) → step_in w at ps ≡ step_among at (map (rec_of (coding_of f)) ps)
  unfolding step_in
  step_pieces [] o at = refl
  step_pieces (p ∷ ps) o at = rw ((told f p o.0).four, over_pieces ps o.1 0 (at + w))

-- behind i movements stand the others
drop_moves : (f : Form) (k : Key) (i : ℕ) (ms : List Movement) (l : List Rec) → drop (sizes (take i ms)) (moves_then (edition_of f) k ms l) ≡ moves_then (edition_of f) k (drop i ms) l
unfolding sizes
drop_moves f k zero ms l = refl
drop_moves f k (suc i) [] l = refl
drop_moves f k (suc i) (m ∷ ms) l =
    let z = length m.complements in
    let q : 1 + z + sizes (take i ms) ≡ suc (z + sizes (take i ms)) = omega arith in
    rw q (drop_adds ((edition_of f).repeats k m.posting) m.complements _ (sizes (take i ms)) ∙ drop_moves f k i ms l)

-- one movement more
size_next : (i : ℕ) (ms : List Movement) {m : Movement} {l : List Movement} → drop i ms ≡ m ∷ l → sizes (take (suc i) ms) ≡ sizes (take i ms) + (1 + length m.complements)
unfolding sizes
size_next i [] e = absurd (never i e)
  where
    never : (i : ℕ) {m : Movement} {l : List Movement} → drop i [] ≡ m ∷ l → ⊥
    never zero e = let z : ◌≡◌ {A = ℕ} 0 1 = cc in omega arith
    never (suc i) e = let z : ◌≡◌ {A = ℕ} 0 1 = cc in omega arith
size_next zero (x ∷ ms) {m} e =
    let q : x ≡ m = cc in
    rw q (omega arith)
size_next (suc i) (x ∷ ms) e = omega (arith, size_next i ms e)

module _ {f : Form} {b : List ℕ} {ss : List Statement} (r : Reads (coding_of f) f b ss) (j : ℕ) (h : j < length ss) where
  -- the number of records before movement i of statement j, both from 0; the 07 follows the last
  abbrev pub before : ℕ → ℕ
  before i = records_before j ss + (1 + sizes (take i (get_or ss j no_statement).movements))

  -- the records from there on
  pub rest : (i : ℕ) → (l : List Rec) × (drop (before i) (all_records (edition_of f) ss)
      ≡ moves_then (edition_of f) (get_or ss j no_statement).key (drop i (get_or ss j no_statement).movements)
      (closing (get_or ss j no_statement).key (get_or ss j no_statement).new_date (get_or ss j no_statement).new_balance ∷ l))
  rest i =
      let s = get_or ss j no_statement in
      let n = sizes (take i s.movements) in
      let q : 1 + n ≡ suc n = omega arith in (
        all_records (edition_of f) (drop (suc j) ss),
        sym (drop-drop (1 + n) (records_before j ss) (all_records (edition_of f) ss))
            ∙ rw (drop_before (edition_of f) j ss, drop-cons ss j no_statement h, all_cons (edition_of f) s (drop (suc j) ss), q) (drop_moves f s.key i s.movements _),
      )

  -- the step there is the step among these records
  step_at : (i : ℕ) → step_of b f (before i * width_of record_size f)
      ≡ step_among f (width_of record_size f) (before i * width_of record_size f) (drop (before i) (all_records (edition_of f) ss))
  unfolding step_of
  step_at i = rw (r.line, pieces_from r (before i)) (step_pieces f (width_of record_size f) (drop (before i) (pieces (coding_of f) f b)) (fine_from r (before i)) (before i * width_of record_size f) ∙ ap (step_among f (width_of record_size f) (before i * width_of record_size f)) (records_from r (before i)))

  -- THE STEP: from the place of a movement to the place after it, with the number of its 05
  pub movement_there : (i : ℕ) {m : Movement} {ms : List Movement} → drop i (get_or ss j no_statement).movements ≡ m ∷ ms
      → step_of b f (before i * width_of record_size f) ≡ Some (found_step (length m.complements) (before (i + 1) * width_of record_size f))
  movement_there i {m} {ms} e =
      let s = get_or ss j no_statement in
      let w = width_of record_size f in
      let at = before i * w in
      let n = length m.complements in
      let z : before (i + 1) ≡ before i + (1 + n) = rw (add-one i) (omega (arith, size_next i s.movements e)) in
      let q : at + w + n * w ≡ before (i + 1) * w = rw z (omega (arith, add-mul (before i) (1 + n) w, suc-mul n w)) in
      step_at i
      ∙ rw ((rest i).1, e)
      (ap Some
      (over_adds f w ((edition_of f).repeats s.key m.posting) m.complements _ 0 (at + w)
      ∙ over_next f w s.key ms s.key s.new_date s.new_balance (rest i).0 (0 + n) (at + w + n * w)
      ∙ ap₂ found_step (zero-add n) q))

  -- behind the last movement there is none
  pub movement_none : step_of b f (before (length (get_or ss j no_statement).movements) * width_of record_size f) ≡ None
  movement_none =
      let i = length (get_or ss j no_statement).movements in
      step_at i ∙ rw ((rest i).1, drop-length (get_or ss j no_statement).movements)
