-- The head of a statement, as the code gathers it.
use mathlib.Core.Path.{◌≡◌, refl, sym, ap, ◌∙◌}
use mathlib.Core.List.{List, [], ◌∷◌}
use Prim.Native.Nat.{ℕ, suc, ◌+◌, ◌-◌, ◌*◌, ◌<◌, ◌≤◌}
use native.Mathlib.Nat.{add-zero, zero-mul, add-mul}
use native.Mathlib.Omega.{arith}
use lib.ListN.{length, drop, get_or}
use lib.Seq.{drop-cons, drop-length, take_all}
use lib.IntN.{ℤ}
use mir.Syntax.{w64}
use mir.Val.{to_z, of_z}
use borrow.Author.Tests.{eq-eqb}
use Rattle.amounts.proofs.Whole.{back}
use Rattle.framing.specs.declared.Form.{Form}
use Rattle.framing.specs.Files.{line_end, width_of}
use Rattle.grammar.specs.declared.Key.{Key}
use Rattle.grammar.specs.Answer.{Answer, accepted, refused}
use Rattle.grammar.specs.Record.{opening, closing}
use Rattle.grammar.specs.Statements.{Statement, sizes, all_records, movements_of}
use Rattle.grammar.specs.Files.{Reads, check_of}
use Rattle.grammar.specs.Parts.{size_of, records_before, no_statement}
use Rattle.grammar.proofs.Parts.{drop_before}
use Rattle.grammar.proofs.Rows.{all_cons}
use Rattle.records.specs.July.{record_size, key_in, date_in, amount_in, decode_record, coding_of, edition_of}
use Rattle.records.specs.declared.Look.{Look}
use Rattle.records.specs.Looks.{look_of}
use Rattle.records.proofs.Theorems.{counts}
use Rattle.fields.specs.Rows.{key_at_of}
use Rattle.std.specs.Prelude.{Ok, Err}
use Rattle.framing.specs.declared.refusals.Refusal.{Refusal}
use Rattle.statements.specs.declared.Counts.{Counts}
use Rattle.statements.specs.Answers.{checked_of}
use Rattle.statements.proofs.Judging.{look_small}
use Rattle.records.specs.Looks.{judged_as}
use Rattle.records.specs.declared.Kind.{Kind}
use Rattle.records.specs.declared.Kind.TheVariants.{Opening, Movement, Complement, Closing}
use Rattle.statements.proofs.Modes.{stands, decoded}
use Rattle.readers.specs.Places.{place_of}
use Rattle.readers.proofs.Movements.{before, rest}
use Rattle.readers.proofs.Turns.{after_last}
use Rattle.contents.specs.declared.Head.{Head}
use Rattle.contents.specs.declared.Summary.{Summary}
use Rattle.contents.specs.Heads.{record_at_of, head_from, head_among, head_in, head_at, movements_in}
use Rattle.contents.proofs.Records.{HoldsAt, record_there}

-- the values of a balance
pub record Balance (b : List ℕ) (k : Key) (d : ℕ) (a : ℤ) : Type 0 where
  pub key : key_in b ≡ k
  pub day : date_in b ≡ d
  pub amount : amount_in b ≡ a

pub opened : (b : List ℕ) {k : Key} {d : ℕ} {a : ℤ} → decode_record b ≡ opening k d a → Balance b k d a
opened b {k} {d} {a} e = by (judged_as b) (decoded b)
  where
    by : (c : Kind) → decode_record b ≡ stands c b → Balance b k d a
    by Opening p = let z = sym p ∙ e in record { key = cc; day = cc; amount = cc }
    by Movement p = absurd (let g = sym p ∙ e in let z : ◌≡◌ {A = ℕ} 0 1 = cc in omega arith)
    by Complement p = absurd (let g = sym p ∙ e in let z : ◌≡◌ {A = ℕ} 0 1 = cc in omega arith)
    by Closing p = absurd (let g = sym p ∙ e in let z : ◌≡◌ {A = ℕ} 0 1 = cc in omega arith)

pub closed : (b : List ℕ) {k : Key} {d : ℕ} {a : ℤ} → decode_record b ≡ closing k d a → Balance b k d a
closed b {k} {d} {a} e = by (judged_as b) (decoded b)
  where
    by : (c : Kind) → decode_record b ≡ stands c b → Balance b k d a
    by Closing p = let z = sym p ∙ e in record { key = cc; day = cc; amount = cc }
    by Movement p = absurd (let g = sym p ∙ e in let z : ◌≡◌ {A = ℕ} 0 1 = cc in omega arith)
    by Complement p = absurd (let g = sym p ∙ e in let z : ◌≡◌ {A = ℕ} 0 1 = cc in omega arith)
    by Opening p = absurd (let g = sym p ∙ e in let z : ◌≡◌ {A = ℕ} 0 1 = cc in omega arith)

-- the head that the code puts together
pub gathered : (o c : List ℕ) {k : Key} {p q : Look} → k ≡ key_at_of o → p ≡ look_of o → q ≡ look_of c
    → ◌≡◌ {A = Head}
    (record {
      key = k;
      old_date = p.day;
      old_balance = to_z w64 (of_z w64 p.amount);
      new_date = q.day;
      new_balance = to_z w64 (of_z w64 q.amount);
    })
    (head_at o c)
unfolding head_at
gathered o c {k} {p} {q} e g h =
    let x = look_small o g in
    let y = look_small c h in
    rw (back p.amount (omega arith), back q.amount (omega arith), e, g, h)

-- a 01 and a 07 with a statement's values hold its head
head_held : (s : Statement) (o c : List ℕ) → length o ≡ record_size → length c ≡ record_size
    → Balance o s.key s.old_date s.old_balance → Balance c s.key s.new_date s.new_balance → head_at o c ≡ head_from s
unfolding head_at key_at_of look_of
head_held s o c l m x y =
    rw (eq-eqb (length o) record_size l, eq-eqb (length c) record_size m, x.key, x.day, x.amount, y.day, y.amount)

-- at the place of statement j, from 0, stands its 01
pub opening_at : {f : Form} {b : List ℕ} {ss : List Statement} → Reads (coding_of f) f b ss → (j : ℕ) → j < length ss
    → let s = get_or ss j no_statement in HoldsAt b (records_before j ss * width_of record_size f) (opening s.key s.old_date s.old_balance)
opening_at {f} {b} {ss} r j h =
    let s = get_or ss j no_statement in
    let q : drop (records_before j ss) (all_records (edition_of f) ss) ≡ all_records (edition_of f) (s ∷ drop (suc j) ss) =
    drop_before (edition_of f) j ss ∙ rw (drop-cons ss j no_statement h) in
    record_there r (records_before j ss) (q ∙ all_cons (edition_of f) s (drop (suc j) ss))

-- and its old date
pub old_date_at : {f : Form} {b : List ℕ} {ss : List Statement} → Reads (coding_of f) f b ss → (j : ℕ) → j < length ss
    → (look_of (record_at_of b (records_before j ss * width_of record_size f))).day ≡ (get_or ss j no_statement).old_date
unfolding look_of
old_date_at r j h = let o = opening_at r j h in rw (eq-eqb _ record_size o.whole) (opened _ o.values).day

-- the part of a statement
module _ {f : Form} {b : List ℕ} {s : Statement} (r : Reads (coding_of f) f b (s ∷ [])) where
  abbrev w : ℕ
  w = width_of record_size f

  -- as many bytes as its records with their line ends
  pub length_part : length b ≡ size_of s * w
  unfolding records_before
  length_part = sym (after_last r) ∙ ap (λ (n : ℕ). n * w) (omega arith)

  -- its first record is its 01
  pub first_held : HoldsAt b 0 (opening s.key s.old_date s.old_balance)
  first_held = rw (zero-mul w) at (record_there r 0 (all_cons (edition_of f) s []))

  -- its last record is its 07
  abbrev records_before_last : ℕ
  records_before_last = before r 0 (omega arith) (length s.movements)

  last_record : drop records_before_last (all_records (edition_of f) (s ∷ []))
      ≡ closing s.key s.new_date s.new_balance ∷ (rest r 0 (omega arith) (length s.movements)).0
  last_record = (rest r 0 (omega arith) (length s.movements)).1 ∙ rw (drop-length s.movements)

  last_place : length b - w ≡ records_before_last * w
  unfolding records_before
  last_place =
      let m = sizes s.movements in
      rw (take_all (length s.movements) s.movements (omega arith), length_part)
      (omega (arith, add-mul m 2 w, add-mul 1 m w, add-mul 0 (1 + m) w))

  pub last_held : HoldsAt b (length b - w) (closing s.key s.new_date s.new_balance)
  last_held = rw last_place (record_there r records_before_last last_record)

  -- the 07 lies in the part
  pub last_inside : record_size + line_end f ≤ length b
  unfolding width_of
  last_inside = rw length_part (omega (arith, add-mul (sizes s.movements) 2 (record_size + line_end f)))

  -- it is accepted with its number of movements
  pub count_there : movements_in (check_of (coding_of f) f b) ≡ length s.movements
  unfolding movements_of
  count_there = rw (counts r) (add-zero (length s.movements))

  -- the whole answer
  pub headed : {h : Head} {m : ℕ} → h ≡ head_at (record_at_of b 0) (record_at_of b (length b - (record_size + line_end f))) → m ≡ movements_in (check_of (coding_of f) f b)
      → ◌≡◌ {A = Summary} (record { head = h; movements = m }) (head_among s)
  unfolding width_of
  headed p q =
      rw (
        p,
        q,
        count_there,
        head_held s (record_at_of b 0) (record_at_of b (length b - w)) first_held.whole last_held.whole (opened _ first_held.values) (closed _ last_held.values),
      )

pub not_headed : (f : Form) (b : List ℕ) (k : ℕ) {e : Refusal} → Err e ≡ place_of f b k → Err e ≡ head_in f b k
unfolding head_in
not_headed f b k e = rw (← e)

-- the count that the check gives
pub counted : (a : Answer) {n : Counts} → Ok n ≡ checked_of a → n.movements ≡ movements_in a
counted (accepted x) e = cc
counted (refused n r) e = absurd (let z : ◌≡◌ {A = ℕ} 0 1 = cc in omega arith)

pub not_counted : (a : Answer) {e : Refusal} → Err e ≡ checked_of a → 0 ≡ movements_in a
not_counted (accepted x) e = absurd (let z : ◌≡◌ {A = ℕ} 0 1 = cc in omega arith)
not_counted (refused n r) e = refl
