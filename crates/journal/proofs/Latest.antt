-- The newest statement of an account: the two loops, what they answer, and one law for each return.
use mathlib.Core.Path.{◌≡◌, refl, sym, ap, ◌∙◌}
use mathlib.Core.Bool.{Bool, true, false, ◌&&◌}
use mathlib.Core.List.{List, [], ◌∷◌}
use Prim.Native.Nat.{ℕ, zero, suc, ◌+◌, ◌-◌, ◌*◌, ◌<◌, ◌≤◌}
use native.Mathlib.Nat.{add-zero, zero-add}
use native.Mathlib.Numerals.{add-one}
use native.Mathlib.Omega.{arith}
use lib.Dec.{eqb}
use lib.ListN.{length, take, drop, get_or, drop_of_length-le}
use lib.Seq.{drop-cons}
use borrow.Author.Tests.{eq-eqb, ne_eqb, lt-ltb}
use Rattle.zones.specs.Choice.{pick}
use Rattle.zones.specs.Copy.{same_bytes}
use Rattle.layouts.specs.Zone.{part}
use Rattle.framing.specs.declared.Form.{Form}
use Rattle.framing.specs.Files.{All, line_end, width_of}
use Rattle.grammar.specs.declared.Key.{Key}
use Rattle.grammar.specs.Record.{same_key}
use Rattle.grammar.specs.Statements.{Statement}
use Rattle.grammar.specs.Files.{Reads, Writable, statements_of}
use Rattle.grammar.specs.Parts.{no_statement}
use Rattle.records.specs.July.{record_size, july, coding_of}
use Rattle.contents.specs.Heads.{record_at_of}
use Rattle.bodies.specs.Bodies.{body_of}
use Rattle.bodies.proofs.Single.{body_reads}
use Rattle.bodies.proofs.Ends.{opening_there, opening_whole}
use Rattle.std.specs.Prelude.{None, Result, Ok, Err}
use Rattle.framing.specs.Refusals.{refusal_by}
use Rattle.framing.specs.declared.refusals.Refusal.{Refusal}
use Rattle.framing.specs.declared.refusals.Reason.TheVariants.{NoSuchEntry}
use Rattle.grammar.proofs.Tests.{clash}
use Rattle.entries.proofs.Found.{none_found}
use Rattle.entries.specs.Entries.{Fields, used_entry, table_size, entry_in, body_at}
use Rattle.journal_layout.proofs.Holding.{Holding, there_fields, there_body, there_inside}
use Rattle.journal_layout.proofs.Testing.{cut}
use Rattle.journal_layout.proofs.Exact.{journal_held, sound_journal}
use Rattle.journal_layout.specs.Test.{held_of}
use Rattle.journal.specs.Arrivals.{span, arrivals, spans_of, last_index}
use Rattle.journal.specs.Newest.{key_size, key_from, newest_among, newest_of, newest_part, is_account, last_held_from, last_part}
use Rattle.journal.specs.declared.Found.{Found}
use Rattle.journal.specs.declared.Found.TheVariants.{InJournal, InFile}
use Rattle.journal.specs.Plans.{part_of, parts_of, Within, Inside, nowhere, spans_at, Reading, Plans, Searchable, Finds}
use Rattle.journal.specs.declared.Bounds.{Bounds}
use Rattle.journal.specs.declared.Plan.{Plan}
use Rattle.journal.specs.Delivery.{refused, outcome_of}
use Rattle.journal.specs.declared.Rejection.{Rejection}
use Rattle.journal.proofs.Values.{reading_length, length_parts}

-- ---- one record's account

get_or_one : (l : List ℕ) (a : ℕ) → get_or (take 1 (drop a l)) 0 0 ≡ get_or l a 0
get_or_one [] zero = refl
get_or_one [] (suc a) = refl
get_or_one (x ∷ l) zero = refl
get_or_one (x ∷ l) (suc a) = get_or_one l a

module _ (x o : List ℕ) where
  pub no_record : (length o ≡ record_size → ⊥) → false ≡ is_account x o
  unfolding is_account
  no_record h = sym (rw (ne_eqb (length o) record_size h))

  pub account_tested : {a b c d : Bool} → length o ≡ record_size → a ≡ same_bytes (part 3 7 o) (part 1 5 x) → b ≡ same_bytes (part 12 16 o) (part 6 10 x)
      → c ≡ same_bytes (part 17 19 o) (part 11 13 x) → d ≡ same_bytes (part 22 32 o) (part 15 25 x)
      → (a && (b && (c && (eqb (get_or o 19 0) (get_or x 13 0) && d)))) ≡ is_account x o
  unfolding is_account same_key
  account_tested l p q r s = rw (p, q, r, s) (sym (rw (eq-eqb (length o) record_size l, get_or_one o 19, get_or_one x 13)))

-- the account of a statement's 01
pub account_value : (x : List ℕ) {f : Form} {h : List ℕ} {s : Statement} → Reads (coding_of f) f h (s ∷ []) → is_account x (record_at_of h 0) ≡ same_key s.key (key_from x)
unfolding is_account
account_value x {f} {h} r = rw (eq-eqb (length (record_at_of h 0)) record_size (opening_whole r), (opening_there r).key)

-- ---- among the held

-- the loop: what is found from entry e on is the whole answer
module _ (j : List ℕ) (count : ℕ) (x : List ℕ) (last e : ℕ) {whole : ℕ} (g : last_held_from (count - e) e last j x ≡ whole) where
  pub goes_on : {h o : List ℕ} {t : Bool} {r : ℕ} → e < count → h ≡ body_at j e → o ≡ record_at_of h 0 → t ≡ is_account x o → r ≡ pick t (e + 1) last
      → last_held_from (count - (e + 1)) (e + 1) r j x ≡ whole
  unfolding last_held_from
  goes_on {h} {o} {t} {r} m p q u v =
      let z : count - e ≡ suc (count - (e + 1)) = omega arith in
      let y : last_held_from (count - (e + 1)) (e + 1) (pick (is_account x (record_at_of (body_at j e) 0)) (e + 1) last) j x ≡ whole = rw z at g in
      rw (v, u, q, p) y

  pub ends : count ≤ e → last ≡ whole
  unfolding last_held_from
  ends h = let z : count - e ≡ 0 = omega arith in rw z at g

-- the index of the account's last held statement
held_index : (j x : List ℕ) (e last : ℕ) (B : List Statement) → All (Writable july) B → ((i : ℕ) → i < length B → body_at j (e + i) ≡ body_of (get_or B i no_statement))
    → last_held_from (length B) e last j x ≡ last_index (key_from x) e last B
unfolding last_held_from last_index
held_index j x e last [] a p = refl
held_index j x e last (b ∷ B) a p =
    let q : body_at j e ≡ body_of b = rw (add-zero e) at (p 0 (omega arith)) in
    let t : is_account x (record_at_of (body_at j e) 0) ≡ same_key b.key (key_from x) = rw q (account_value x (body_reads a.0)) in
    ap (λ u. last_held_from (length B) (e + 1) (pick u (e + 1) last) j x) t
    ∙ held_index j x (e + 1) _ B a.1 (λ i h. let z : e + 1 + i ≡ e + suc i = omega arith in rw z (p (suc i) (omega arith)))

pub last_held_is : {j : List ℕ} {H : List Statement} (x : List ℕ) → Holding j H → last_held_from (length H) 0 0 j x ≡ last_index (key_from x) 0 0 H
last_held_is {j} {H} x g = held_index j x 0 0 H g.alone (λ i h. rw (zero-add i) (there_body g i h))

-- ---- among the planned

-- the loop: what is found from part p on is the whole answer
module _ (b : List ℕ) (xs : List Bounds) (x : List ℕ) (last p : ℕ) {whole : ℕ} (g : last_part p last (parts_of (drop p xs) b) x ≡ whole) where
  pub searches_on : {h o : List ℕ} {t : Bool} {r : ℕ} → p < length xs → h ≡ part_of (get_or xs p nowhere) b → o ≡ record_at_of h 0
      → t ≡ is_account x o → r ≡ pick t (p + 1) last → last_part (p + 1) r (parts_of (drop (p + 1) xs) b) x ≡ whole
  unfolding last_part
  searches_on m e q u v =
      let d : drop p xs ≡ get_or xs p nowhere ∷ drop (p + 1) xs = rw (add-one p) (drop-cons xs p nowhere m) in
      rw (v, u, q, e) (rw d at g)

  pub stops : length xs ≤ p → last ≡ whole
  unfolding last_part
  stops h = rw (drop_of_length-le xs {i = p} h) at g

pub last_part_is : (f : Form) (x : List ℕ) (p last : ℕ) (hs : List (List ℕ)) (P : List Statement) → Reading f hs P → last_part p last hs x ≡ last_index (key_from x) p last P
unfolding last_part last_index
last_part_is f x p last [] [] r = refl
last_part_is f x p last [] (s ∷ P) r = absurd r
last_part_is f x p last (h ∷ hs) [] r = absurd r
last_part_is f x p last (h ∷ hs) (s ∷ P) r =
    ap (λ u. last_part (p + 1) (pick u (p + 1) last) hs x) (account_value x r.0) ∙ last_part_is f x (p + 1) _ hs P r.1

-- an index is one of the row, or what it was before
pub index_most : (k : Key) (i last : ℕ) (ss : List Statement) → last ≤ i → last_index k i last ss ≤ i + length ss
unfolding last_index
index_most k i last [] h = omega arith
index_most k i last (s ∷ ss) h = let p = index_most k (i + 1) (pick (same_key s.key k) (i + 1) last) ss (by (same_key s.key k)) in omega arith
  where
    by : (t : Bool) → pick t (i + 1) last ≤ i + 1
    by true = omega arith
    by false = omega arith

-- ---- at the returns

span_at : (xs : List Bounds) (i : ℕ) → i < length xs → get_or (spans_at xs) i (span 0 0) ≡ span (get_or xs i nowhere).first ((get_or xs i nowhere).end - (get_or xs i nowhere).first)
span_at [] i h = absurd (omega arith)
span_at (x ∷ xs) zero h = refl
span_at (x ∷ xs) (suc i) h = span_at xs i (omega arith)

-- each of the parts lies in the file
pub inside_at : (b : List ℕ) (xs : List Bounds) (i : ℕ) → Inside xs b → i < length xs → Within (get_or xs i nowhere) b
inside_at b [] i a h = absurd (omega arith)
inside_at b (x ∷ xs) zero a h = a.0
inside_at b (x ∷ xs) (suc i) a h = inside_at b xs i a.1 (omega arith)

module _ {j : List ℕ} {f : Form} {b : List ℕ} {xs : List Bounds} {held : ℕ} (g : Searchable j f b xs held) (x : List ℕ) where
  abbrev H : List Statement
  H = held_of j

  abbrev S : List Statement
  S = statements_of (coding_of f) f b

  abbrev found : Result Found Refusal
  found = pick (eqb (length x) key_size) (newest_among f (key_from x) H S) (Err (refusal_by NoSuchEntry 0))

  -- and each lies where it says
  module _ (size : length x ≡ key_size) where
    module _ {n : ℕ} (q : n ≡ last_part 0 0 (parts_of xs b) x) where
      index : last_index (key_from x) 0 0 (arrivals H S) ≡ n
      index = sym (q ∙ last_part_is f x 0 0 (parts_of xs b) g.list g.reads ∙ ap (last_index (key_from x) 0 0) g.new)

      -- it is one of the parts
      part_there : n ≤ length xs
      part_there =
          let m = index_most (key_from x) 0 0 g.list (omega arith) in
          let e : n ≡ last_index (key_from x) 0 0 g.list = q ∙ last_part_is f x 0 0 (parts_of xs b) g.list g.reads in
          omega (arith, m, e, reading_length f (parts_of xs b) g.list g.reads, length_parts xs b)

    module _ (i : ℕ) (q : i + 1 ≡ last_part 0 0 (parts_of xs b) x) (inside : Inside xs b) where
      pub part_inside : (i < length xs) × Within (get_or xs i nowhere) b
      part_inside = let l : i < length xs = let m = part_there q in omega arith in (l, inside_at b xs i inside l)

      pub found_file : Finds found j b (Ok (InFile (get_or xs i nowhere).first ((get_or xs i nowhere).end - (get_or xs i nowhere).first) (line_end f)))
      unfolding newest_among
      found_file =
          let l = part_inside in
          let z : i + 1 - 1 ≡ i = omega arith in
          let s : get_or (spans_of (width_of record_size f) H 0 S) i (span 0 0) ≡ span (get_or xs i nowhere).first ((get_or xs i nowhere).end - (get_or xs i nowhere).first) =
          rw (← g.spans) (span_at xs i l.0) in
          record {
            same = sym (rw (eq-eqb (length x) key_size size, index q, lt-ltb 0 (i + 1) (omega arith), z, s));
            lies = let w = l.1 in omega arith;
          }

    module _ (none : 0 ≡ last_part 0 0 (parts_of xs b) x) where
      module _ {n : ℕ} (r : n ≡ last_held_from held 0 0 j x) where
        held_at : last_index (key_from x) 0 0 H ≡ n
        held_at = sym (r ∙ rw g.entry (last_held_is x (journal_held (sound_journal j g.sound)).holding))

      pub found_nowhere : 0 ≡ last_held_from held 0 0 j x → Finds found j b (Err (refusal_by NoSuchEntry 0))
      unfolding newest_among
      found_nowhere r = record { same = sym (rw (eq-eqb (length x) key_size size, index none, held_at r)); lies = tt }

      -- an entry that was found by its account is used
      pub found_used : (i : ℕ) → i + 1 ≡ last_held_from held 0 0 j x → (None ≡ used_entry (entry_in j i)) → ⊥
      found_used i r u =
          let o = (journal_held (sound_journal j g.sound)).holding in
          let l : i < length H = omega (arith, held_at r, index_most (key_from x) 0 0 H (omega arith)) in
          clash (ap (λ y. y.used) (there_fields o i l)) (none_found (entry_in j i) u)

      pub found_journal : (i : ℕ) {y : Fields} → i + 1 ≡ last_held_from held 0 0 j x → y ≡ entry_in j i
          → Finds found j b (Ok (InJournal (table_size + record_size * y.first) (record_size * y.records)))
      unfolding newest_among
      found_journal i {y} r w =
          let o = (journal_held (sound_journal j g.sound)).holding in
          let n = held_at r in
          let z : i + 1 - 1 ≡ i = omega arith in
          let l : i < length H = omega (arith, n, index_most (key_from x) 0 0 H (omega arith)) in
          let t = w ∙ there_fields o i l in
          record {
            same = sym (rw (eq-eqb (length x) key_size size, index none, n, lt-ltb 0 (i + 1) (omega arith), z, t));
            lies = rw t (there_inside o i l);
          }

-- ---- delivery's refusals first

module _ (j : List ℕ) (f : Form) (b : List ℕ) where
  -- a plan can be searched
  pub searchable : {plan : Plan} → Plans j f b plan → Searchable j f b (take plan.count plan.bounds) plan.entry
  searchable g =
      let w = g.storable in
      record {
        list = w.list;
        sound = g.sound;
        entry = g.entry;
        reads = w.reads;
        new = g.new;
        spans = g.spans;
      }

  pub found_planned : {plan : Plan} → Plans j f b plan → (x : List ℕ) {r : Result Found Refusal}
      → Finds (pick (eqb (length x) key_size) (newest_among f (key_from x) (held_of j) (statements_of (coding_of f) f b)) (Err (refusal_by NoSuchEntry 0))) j b r → Finds (newest_of j f b x) j b r
  unfolding newest_of
  found_planned g x r = rw g.outcome r

  pub found_refused : {r : Rejection} → outcome_of j f b ≡ refused r → (x : List ℕ) → Finds (newest_of j f b x) j b (Err r.refusal)
  unfolding newest_of
  found_refused o x = record { same = sym (rw o); lies = tt }

-- the part that a place names
module _ {j : List ℕ} (f : Form) {b : List ℕ} (x : List ℕ) {r : Result Found Refusal} (g : Finds (newest_of j f b x) j b r) where
  pub part_journal : {y n : ℕ} → r ≡ Ok (InJournal y n) → take (y + n - y) (drop y j) ≡ newest_part j f b x
  unfolding newest_part
  part_journal {y} {n} e = cut y n j ∙ rw (← g.same, e)

  pub part_file : {y n z : ℕ} → r ≡ Ok (InFile y n z) → take (y + n - y) (drop y b) ≡ newest_part j f b x
  unfolding newest_part
  part_file {y} {n} e = cut y n b ∙ rw (← g.same, e)

  pub part_none : {e : Refusal} → r ≡ Err e → [] ≡ newest_part j f b x
  unfolding newest_part
  part_none e = sym (rw (← g.same, e))
