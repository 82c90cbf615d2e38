-- The writer as a whole: its answer, and what its output then holds.
use mathlib.Core.Path.{◌≡◌, refl, sym, ap, ◌∙◌}
use Rattle.std.specs.Prelude.{Option, Some, None, Result, Ok, Err}
use mathlib.Core.Bool.{Bool, true, false}
use mathlib.Core.List.{List, [], ◌∷◌, ◌++◌, append_assoc}
use Prim.Native.Nat.{ℕ, ◌+◌, ◌-◌, ◌*◌, ◌≤◌}
use native.Mathlib.Omega.{arith}
use lib.Dec.{leb, ltb}
use lib.ListN.{length, take, drop, length-append, length-drop, take-append-drop}
use lib.Seq.{take_at, drop_at, drop-drop, length-take-le}
use borrow.Author.Tests.{eq-eqb, le-leb, leb-true, le-ltb, ltb-false}
use Rattle.zones.specs.Choice.{pick}
use Rattle.zones.specs.Pieces.{flat}
use Rattle.zones.proofs.Bools.{both}
use Rattle.framing.specs.Refusals.{refusal_by}
use Rattle.framing.specs.declared.refusals.Reason.TheVariants.{NoSuchFile, ShortOutput}
use Rattle.framing.specs.declared.refusals.Refusal.{Refusal}
use Rattle.grammar.specs.Record.{opening, closing}
use Rattle.grammar.specs.Statements as values
use Rattle.grammar.specs.Statements.{sizes, records_of_movements, records_of}
use Rattle.grammar.proofs.Parts.{length_one}
use Rattle.records.specs.July.{record_size, write_balance, july2004}
use Rattle.records.proofs.Lawful.{july_lawful}
use Rattle.fields.specs.declared.Movement.{Movement}
use Rattle.contents.specs.declared.Head.{Head}
use Rattle.writing.specs.Written.{balance_holds, opening_put, closing_put}
use Rattle.writing.proofs.Held.{opening_holds, closing_holds}
use Rattle.writer.specs.declared.Tally.{Tally}
use Rattle.writer.specs.Values.{movements_from, statement_from, Carried, written_of}
use Rattle.writer.specs.Test.{begun, tallied, completed, carries}
use Rattle.writer.specs.Writing.{write_answer_of, write_of}
use Rattle.writer.specs.Steps.{plan_of, rows_put, first_spot, ends_put}
use Rattle.writer.specs.Answers.{WriteStatement}
use Rattle.writer.proofs.Rows.{after, first, Passed, passed}
use Rattle.writer.proofs.Carried.{carried}
use Rattle.writer.proofs.Laid.{text, text_append, length_text, rows_laid}

-- its 01 and its 07
abbrev opened : Head → List ℕ
opened h = write_balance "01" h.key h.old_date h.old_balance

abbrev closed : Head → List ℕ
closed h = write_balance "07" h.key h.new_date h.new_balance

-- the 01 and the 07 around what stands between them
module _ (h : Head) (a x c d : List ℕ) (p : length a ≡ record_size) (q : length c ≡ record_size)
    (old : balance_holds h.key h.old_date h.old_balance ≡ true) (new : balance_holds h.key h.new_date h.new_balance ≡ true) where
  abbrev out : List ℕ
  out = a ++ (x ++ (c ++ d))

  put_first : opening_put h.key h.old_date h.old_balance a ≡ opened h
  unfolding opening_put
  put_first = rw (both (eq-eqb (length a) record_size p) old)

  put_last : closing_put h.key h.new_date h.new_balance c ≡ closed h
  unfolding closing_put
  put_last = rw (both (eq-eqb (length c) record_size q) new)

  ends_laid : (bytes : ℕ) → bytes ≡ record_size + (length x + record_size) → ends_put bytes h out ≡ opened h ++ (x ++ (closed h ++ d))
  unfolding ends_put
  ends_laid bytes e =
      let l : length out ≡ record_size + (length x + (record_size + length d)) = omega (arith, length-append a (x ++ (c ++ d)), length-append x (c ++ d), length-append c d, p, q) in
      let b : drop record_size out ≡ x ++ (c ++ d) = drop_at a (x ++ (c ++ d)) record_size p in
      let n : bytes - 2 * record_size ≡ length x = omega arith in
      let m : bytes - record_size ≡ record_size + length x = omega arith in
      let t : drop (record_size + length x) out ≡ c ++ d = sym (drop-drop (length x) record_size out) ∙ ap (drop (length x)) b ∙ drop_at x (c ++ d) (length x) refl in
      let z : bytes ≡ record_size + length x + record_size = omega arith in
      let f : drop bytes out ≡ d = ap (λ (y : ℕ). drop y out) z ∙ sym (drop-drop record_size (record_size + length x) out) ∙ ap (drop record_size) t ∙ drop_at c d record_size q in
      rw (both (le-leb (2 * record_size) bytes (omega arith)) (le-leb bytes (length out) (omega (arith, l))), take_at a (x ++ (c ++ d)) record_size p, b, n, m, t, f, take_at x (c ++ d) (length x) refl, take_at c d record_size q, put_first, put_last)

planned_none : (h : Head) (u : Option Tally) (len n : ℕ) → completed h u len ≡ false → plan_of h u len n ≡ Err (refusal_by NoSuchFile 0)
unfolding completed plan_of
planned_none h None len n q = refl
planned_none h (Some t) len n q = rw q

module _ (h : Head) (rows : List Movement) (cs : List ℕ) where
  abbrev s : Tally
  s = after (first h) rows cs

  abbrev ms : List values.Movement
  ms = movements_from rows cs

  -- values that pass the test
  module _ (e : carries h rows cs ≡ true) where
    c : Carried h rows cs
    c = carried h rows cs e

    ran : Passed h rows cs
    ran = passed h rows cs e

    count : s.records ≡ 2 + sizes ms
    count = refl

    size : length (written_of h rows cs) ≡ s.records * record_size
    unfolding written_of
    size =
        length_text (records_of july2004 (statement_from h rows cs)) c.writable.ok
        ∙ ap (λ (n : ℕ). n * record_size) (length_one july2004 (statement_from h rows cs) ∙ omega (arith, count))

    -- its three parts
    abbrev rest : List ℕ
    rest = text (records_of_movements july2004 h.key ms)

    parts : written_of h rows cs ≡ opened h ++ (rest ++ (closed h ++ []))
    unfolding written_of records_of flat
    parts = ap (λ l. opened h ++ l) (text_append (records_of_movements july2004 h.key ms) (closing h.key h.new_date h.new_balance ∷ []))

    first_wide : length (opened h) ≡ record_size
    first_wide = july_lawful.wide (opening h.key h.old_date h.old_balance) (sym (opening_holds h.key h.old_date h.old_balance) ∙ ran.old)

    last_wide : length (closed h) ≡ record_size
    last_wide = july_lawful.wide (closing h.key h.new_date h.new_balance) (sym (closing_holds h.key h.new_date h.new_balance) ∙ ran.new)

    rest_wide : length rest ≡ sizes ms * record_size
    rest_wide = omega (arith, ap length parts, length-append (opened h) (rest ++ (closed h ++ [])), length-append rest (closed h ++ []), length-append (closed h) [], first_wide, last_wide, size, count)

    -- the output cut where the records meet
    module _ (out : List ℕ) (r : s.records * record_size ≤ length out) where
      abbrev mid : ℕ
      mid = sizes ms * record_size

      abbrev a : List ℕ
      a = take record_size out

      abbrev x : List ℕ
      x = take mid (drop record_size out)

      abbrev z : List ℕ
      z = take record_size (drop mid (drop record_size out))

      abbrev d : List ℕ
      d = drop record_size (drop mid (drop record_size out))

      cut : a ++ (x ++ (z ++ d)) ≡ out
      cut = rw (take-append-drop record_size (drop mid (drop record_size out)), take-append-drop mid (drop record_size out)) (take-append-drop record_size out)

      la : length a ≡ record_size
      la = length-take-le record_size out (omega (arith, count))

      lx : length x ≡ mid
      lx = length-take-le mid (drop record_size out) (omega (arith, count, length-drop record_size out))

      lz : length z ≡ record_size
      lz = length-take-le record_size (drop mid (drop record_size out)) (omega (arith, count, length-drop record_size out, length-drop mid (drop record_size out)))

      end : d ≡ drop (length (written_of h rows cs)) out
      end =
          let n : length (written_of h rows cs) ≡ record_size + mid + record_size = omega (arith, size, count) in
          rw (n, ← drop-drop record_size (record_size + mid) out, ← drop-drop mid record_size out)

      -- the ends around what stands there, then the rows between the ends
      ends_there : ends_put (s.records * record_size) h out ≡ opened h ++ (x ++ (closed h ++ d))
      ends_there = ap (ends_put (s.records * record_size) h) (sym cut) ∙ ends_laid h a x z d la lz ran.old ran.new (s.records * record_size) (omega (arith, count, lx))

      laid : rows_put (s.records * record_size) h.key rows cs first_spot (ends_put (s.records * record_size) h out) ≡ written_of h rows cs ++ drop (length (written_of h rows cs)) out
      laid =
          let n = s.records * record_size in
          let l : length (opened h ++ (x ++ (closed h ++ d))) ≡ length (a ++ (x ++ (z ++ d))) =
          omega (arith, length-append (opened h) (x ++ (closed h ++ d)), length-append x (closed h ++ d), length-append (closed h) d, length-append a (x ++ (z ++ d)), length-append x (z ++ d), length-append z d, la, lz, first_wide, last_wide) in
          let k : length out ≡ length (a ++ (x ++ (z ++ d))) = ap length (sym cut) in
          ap (λ o. rows_put n h.key rows cs first_spot o) ends_there
          ∙ rows_laid n h rows cs first_spot (opened h) x (closed h ++ d) ran.fine first_wide lx (omega (arith, c.writable.valid.short)) (omega (arith, lx, count)) (omega (arith, r, l, k)) (omega (arith, c.whole))
          ∙ rw (← end) (sym (ap (λ l. l ++ d) parts ∙ append_assoc (opened h) (rest ++ (closed h ++ [])) d ∙ ap (λ l. opened h ++ l) (append_assoc rest (closed h ++ []) d ∙ ap (λ l. rest ++ l) (append_assoc (closed h) [] d))))

module _ (h : Head) (rows : List Movement) (cs out : List ℕ) where
  abbrev plan : Result ℕ Refusal
  plan = plan_of h (tallied h (begun h) rows cs) (length cs) (length out)

  -- how many bytes are written
  abbrev wide : ℕ
  wide = length (written_of h rows cs)

  not_carried : carries h rows cs ≡ false → plan ≡ Err (refusal_by NoSuchFile 0)
  unfolding carries
  not_carried q = planned_none h (tallied h (begun h) rows cs) (length cs) (length out) q

  -- values that pass are planned by their own number of records
  planned : carries h rows cs ≡ true → plan ≡ pick (ltb (length out) wide) (Err (refusal_by ShortOutput 0)) (Ok wide)
  unfolding plan_of
  planned q = let r = passed h rows cs q in rw (r.end, r.complete, size h rows cs q)

  answered : plan ≡ write_answer_of h rows cs (length out)
  unfolding write_answer_of
  answered = by (carries h rows cs) refl
    where
      by : (t : Bool) → carries h rows cs ≡ t → plan ≡ write_answer_of h rows cs (length out)
      by true q = planned q ∙ sym (rw q)
      by false q = not_carried q ∙ sym (rw q)

  -- THE WRITER: whatever is planned and put as the code does meets the contract; on refusal nothing is put
  pub not_wrote : {e : Refusal} → Err e ≡ plan → WriteStatement h rows cs out (Err e) out
  unfolding write_of
  not_wrote {e} p = record { answer = p ∙ answered; content = by (carries h rows cs) (leb wide (length out)) refl refl }
    where
      by : (t u : Bool) → carries h rows cs ≡ t → leb wide (length out) ≡ u → out ≡ write_of h rows cs out
      by false u q v = sym (rw q)
      by true false q v = sym (rw (q, v))
      by true true q v =
          let g : Err e ≡ Ok wide = p ∙ planned q ∙ rw (le-ltb (length out) wide (leb-true wide (length out) v)) in
          cc

  pub wrote : {n : ℕ} {o w : List ℕ} → Ok n ≡ plan → o ≡ ends_put n h out → w ≡ rows_put n h.key rows cs first_spot o → WriteStatement h rows cs out (Ok n) w
  unfolding write_of
  wrote {n} {o} {w} p f g = record { answer = p ∙ answered; content = by (carries h rows cs) (ltb (length out) wide) refl refl }
    where
      by : (t u : Bool) → carries h rows cs ≡ t → ltb (length out) wide ≡ u → w ≡ write_of h rows cs out
      by false u q v =
          let z = p ∙ not_carried q in
          cc
      by true true q v =
          let z : Ok n ≡ Err (refusal_by ShortOutput 0) = p ∙ planned q ∙ rw v in
          cc
      by true false q v =
          let z : Ok n ≡ Ok wide = p ∙ planned q ∙ rw v in
          let k = size h rows cs q in
          let l = ltb-false (length out) wide v in
          let y : n ≡ (s h rows cs).records * record_size = cc in
          g ∙ ap (λ l. rows_put n h.key rows cs first_spot l) f ∙ ap (λ (b : ℕ). rows_put b h.key rows cs first_spot (ends_put b h out)) y
          ∙ laid h rows cs q out (omega arith) ∙ sym (rw (q, le-leb wide (length out) l))
