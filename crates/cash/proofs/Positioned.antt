-- The answer and the table at each return of the code, and what the answer is bounded by.
use mathlib.Core.Path.{◌≡◌, refl, sym, ap, ◌∙◌}
use mathlib.Core.Bool.{Bool, true, false, not, ◌&&◌, ◌||◌}
use mathlib.Core.List.{List, ◌++◌, map}
use Prim.Native.Nat.{ℕ, ◌<◌, ◌≤◌}
use native.Mathlib.Omega.{arith}
use lib.Dec.{eqb, ltb}
use lib.ListN.{length, drop}
use lib.IntN.{ℤ}
use borrow.Author.Tests.{lt-ltb, le-ltb, ltb-false}
use Rattle.std.specs.Prelude.{Result, Ok, Err, MatchResult}
use Rattle.std.proofs.lemmas.Bool.{true_from_ne_false}
use Rattle.zones.specs.Choice.{pick}
use Rattle.framing.specs.Refusals.{reason_number, refusal_of, refusal_by}
use Rattle.framing.specs.declared.refusals.Reason.TheVariants.{UnsoundJournal, NoSpan, NoSuchEntry, ShortTable}
use Rattle.framing.specs.declared.refusals.Refusal.{Refusal}
use Rattle.framing.proofs.Reasons.{reason_back, reason_positive}
use Rattle.dates.specs.Days.{is_day}
use Rattle.dates.specs.Ordinals.{ordinal_of}
use Rattle.dates.proofs.Ordinals.{ordinal_below}
use Rattle.records.specs.Looks.{look_of}
use Rattle.contents.specs.Heads.{record_at_of}
use Rattle.fields.specs.declared.Valued.{Valued}
use Rattle.journal_layout.specs.Chains.{of_account}
use Rattle.journal_layout.specs.Test.{sound_in, held_of}
use Rattle.journal.specs.Newest.{key_from}
use Rattle.journal.specs.Holdings.{holding_of, body_in}
use Rattle.journal.proofs.Promises.{promise}
use Rattle.packing.specs.Packing.{Fits, refused, packed, answered_of}
use Rattle.packing.specs.Answers.{RefusalNumber}
use Rattle.packing.proofs.Packing.{a_back, b_back, kind_back, answered_fits, refused_fits}
use Rattle.cash.specs.declared.Span.{Span}
use Rattle.cash.specs.Value.{movements_of, first_balance, balance_at, value_at}
use Rattle.cash.specs.Spans.{most_days, span_days, no_span, days_from}
use Rattle.cash.specs.Positions.{no_account, position_of, amounts_of, table_of}
use Rattle.cash.specs.Buckets.{dated, row_of}
use Rattle.cash.specs.Calls.{span_from, first_from, Opening}
use Rattle.cash.specs.Answers.{PaperPosition, paper_position, packed_position, paper_position_in, Positions, PositionNumber}
use Rattle.cash.proofs.Spans.{amounts_row}
use Rattle.cash.proofs.Account.{account_days}
use Rattle.cash.proofs.Asking.{Spanned, spanned, First, some_held, none_held}

-- ---- what the journal's answer says

module _ (j : List ℕ) where
  pub holding_sound : {n : ℕ} → Ok n ≡ holding_of j → (sound_in j ≡ true) × (n ≡ length (held_of j))
  unfolding holding_of
  holding_sound {n} e = by (sound_in j) refl e
    where
      by : (t : Bool) → sound_in j ≡ t → Ok n ≡ pick t (Ok (length (held_of j))) (Err (refusal_by UnsoundJournal 0)) → (sound_in j ≡ true) × (n ≡ length (held_of j))
      by true z q = (z, cc)
      by false z q = absurd (let y : ◌≡◌ {A = ℕ} 0 1 = cc in omega arith)

  -- 21
  pub not_sound : (x : List ℕ) (first last : ℕ) (t : List ℤ) {e : Refusal} → Err e ≡ holding_of j → Positions j x first last t (Err e) t
  unfolding holding_of position_of table_of
  not_sound x first last t {e} p = by (sound_in j) refl p
    where
      by : (u : Bool) → sound_in j ≡ u → Err e ≡ pick u (Ok (length (held_of j))) (Err (refusal_by UnsoundJournal 0)) → Positions j x first last t (Err e) t
      by true z q = absurd (let y : ◌≡◌ {A = ℕ} 0 1 = cc in omega arith)
      by false z q = record { answer = rw z q; content = sym (rw z) }

-- ---- a sound journal

module _ (j x : List ℕ) (first last : ℕ) (t : List ℤ) (sound : sound_in j ≡ true) where
  pub no_span_at : {r : Result ℕ Refusal} → (no_span first last ≡ false → ⊥) → r ≡ Err (refusal_by NoSpan 0) → Positions j x first last t r t
  unfolding position_of table_of
  no_span_at n q =
      let s = true_from_ne_false (no_span first last) n in
      record { answer = q ∙ sym (rw (sound, s)); content = sym (rw (sound, s)) }

  module _ {count : ℕ} (many : count ≡ length (held_of j)) {s : Span} (g : (no_span first last ≡ false) × (s ≡ span_from first last)) where
    pub no_entry_at : {r : Result ℕ Refusal} → (0 < first_from count 0 j x → ⊥) → r ≡ Err (refusal_by NoSuchEntry 0) → Positions j x first last t r t
    unfolding position_of table_of
    no_entry_at n q =
        let z : first_from count 0 j x ≡ 0 = omega arith in
        let a = none_held (promise j sound) x (rw many at z) in
        record { answer = q ∙ sym (rw (sound, g.0, a)); content = sym (rw (sound, g.0, a)) }

    module _ {f : ℕ} (h : (0 < first_from count 0 j x) × (f ≡ first_from count 0 j x)) where
      abbrev n : ℕ
      n = s.days

      abbrev span : Spanned first last (span_days first last)
      span = spanned first last g.0

      days_are : n ≡ span_days first last
      days_are = ap (λ z. z.days) g.1

      pub some_days : 0 < n
      some_days = omega (arith, days_are, span.order)

      abbrev account : First (promise j sound) x f × (no_account x (held_of j) ≡ false)
      account = some_held (promise j sound) x (rw many at h.1) (omega (arith, h))

      pub short_at : {r : Result ℕ Refusal} → length t < n → r ≡ Err (refusal_by ShortTable 0) → Positions j x first last t r t
      unfolding position_of table_of
      short_at l q =
          let a = account.1 in
          let z = lt-ltb (length t) (span_days first last) (omega (arith, l, days_are)) in
          record { answer = q ∙ sym (rw (sound, g.0, a, z)); content = sym (rw (sound, g.0, a, z)) }

      module _ {b : ℤ} (o : b ≡ (look_of (record_at_of (body_in j f) 0)).amount) where
        pub opening : Opening b j x
        opening =
            let a = account.0 in
            record { key = a.size; first = a.first; rest = a.rest; list = a.list; balance = o ∙ a.balance }

        abbrev ms : List Valued
        ms = movements_of (key_from x) (held_of j)

        -- the row in ordinals is the row of the paper
        amounts_are : amounts_of (key_from x) (held_of j) first n ≡ row_of b (map dated ms) (ordinal_of first) n
        unfolding amounts_of balance_at
        amounts_are =
            let q : first_balance (of_account (key_from x) (held_of j)) ≡ b = ap first_balance opening.list ∙ sym opening.balance in
            ap (λ z. map (value_at z ms) (days_from first n)) q
            ∙ amounts_row b ms (account_days (promise j sound) (key_from x)) first n span.day
            (omega (arith, days_are, span.order, ordinal_below last span.day'))

        pub answered : n ≤ length t → {v : List ℤ} → v ≡ row_of b (map dated ms) s.from n → Positions j x first last t (Ok n) (v ++ drop n t)
        unfolding position_of table_of
        answered l {v} q =
            let a = account.1 in
            let s = g.0 in
            let m = days_are in
            let z = le-ltb (length t) (span_days first last) (omega (arith, l, m)) in
            record {
              answer = sym (rw (sound, s, a, z, ← m));
              content = ap (λ l. l ++ drop n t) (rw (ap (λ z. z.from) g.1) at q ∙ sym amounts_are) ∙ sym (rw (sound, s, a, z, ← m));
            }

-- ---- the answer as one number

-- how large its numbers can be
abbrev pub PositionBounds : Result ℕ Refusal → Type 0
PositionBounds (Ok n) = n ≤ most_days
PositionBounds (Err e) = (reason_number e.reason ≤ 27) × (e.«record» ≡ 0)

pub position_bounds : (j x : List ℕ) (first last room : ℕ) → PositionBounds (position_of j x first last room)
unfolding position_of no_span
position_bounds j x first last room =
    by (sound_in j) (not (is_day first && is_day last)) (ltb last first) (ltb most_days (span_days first last)) refl (no_account x (held_of j)) (ltb room (span_days first last))
  where
    by : (a b c d : Bool) → ltb most_days (span_days first last) ≡ d → (e f : Bool)
        → PositionBounds
        (pick a
        (pick (b || (c || d)) (Err (refusal_by NoSpan 0))
        (pick e (Err (refusal_by NoSuchEntry 0)) (pick f (Err (refusal_by ShortTable 0)) (Ok (span_days first last)))))
        (Err (refusal_by UnsoundJournal 0)))
    by false b c d z e f = (omega arith, refl)
    by true true c d z e f = (omega arith, refl)
    by true false true d z e f = (omega arith, refl)
    by true false false true z e f = (omega arith, refl)
    by true false false false z true f = (omega arith, refl)
    by true false false false z false true = (omega arith, refl)
    by true false false false z false false = ltb-false most_days (span_days first last) z

filled_fits : {n : ℕ} → n ≤ most_days → Fits 0 n 0 0
filled_fits k = record { kind_fits = omega arith; a_fits = omega arith; b_fits = omega arith; c_fits = omega arith }

refusal_fits : {n r : ℕ} → (n ≤ 27) × (r ≡ 0) → Fits 1 r n 0
refusal_fits k =
    let p = k.0 in
    let q = k.1 in
    record { kind_fits = omega arith; a_fits = omega arith; b_fits = omega arith; c_fits = omega arith }

-- what the code packs of an answer
module _ (j x : List ℕ) (first last : ℕ) (t : List ℤ) {m : ℕ} {t' : List ℤ} where
  pub numbered : (r : Result ℕ Refusal) → MatchResult r (λ n. m ≡ answered_of n 0 0) (λ e. RefusalNumber e m)
      → Positions j x first last t r t' → PositionNumber j x first last t m t'
  numbered (Ok n) p g =
      let k : n ≤ most_days = rw (← g.answer) at (position_bounds j x first last (length t)) in
      record { answer = p ∙ answered_fits (filled_fits k) ∙ ap (λ a. packed_position (paper_position a)) g.answer; content = g.content }
  numbered (Err e) p g =
      let k : (reason_number e.reason ≤ 27) × (e.«record» ≡ 0) = rw (← g.answer) at (position_bounds j x first last (length t)) in
      let z : refused (reason_number e.reason) e.«record» ≡ packed (reason_number e.reason) e.«record» 0 0 0 = rw (reason_positive e.reason) in
      record { answer = p.answer ∙ refused_fits (refusal_fits k) ∙ z ∙ ap (λ a. packed_position (paper_position a)) g.answer; content = g.content }

-- THE BITS ARE THE PAPER'S ANSWER, and one number stands for one answer
position_back : (r : Result ℕ Refusal) → PositionBounds r → paper_position_in (packed_position (paper_position r)) ≡ paper_position r
position_back (Ok n) k = let f = filled_fits k in rw (kind_back f, a_back f)
position_back (Err e) k = let f = refusal_fits k in rw (reason_positive e.reason, kind_back f, a_back f, b_back f)

pub position_paper : {j x : List ℕ} {first last : ℕ} {t : List ℤ} {m : ℕ} {t' : List ℤ} → PositionNumber j x first last t m t'
    → paper_position_in m ≡ paper_position (position_of j x first last (length t))
position_paper {j} {x} {first} {last} {t} g =
    ap paper_position_in g.answer ∙ position_back (position_of j x first last (length t)) (position_bounds j x first last (length t))

-- the record determines the answer
abbrev position_from : PaperPosition → Result ℕ Refusal
position_from p = pick (eqb p.number 0) (Ok p.days) (Err (refusal_of p.number p.at))

from_paper : (r : Result ℕ Refusal) → position_from (paper_position r) ≡ r
from_paper (Ok n) = refl
from_paper (Err e) = rw (reason_positive e.reason, reason_back e.reason)

pub paper_apart : {r q : Result ℕ Refusal} → paper_position r ≡ paper_position q → r ≡ q
paper_apart {r} {q} p = sym (from_paper r) ∙ ap position_from p ∙ from_paper q

pub position_apart : {j i x y : List ℕ} {first last f l : ℕ} {t u : List ℤ} {m : ℕ} {t' u' : List ℤ} → PositionNumber j x first last t m t' → PositionNumber i y f l u m u'
    → position_of j x first last (length t) ≡ position_of i y f l (length u)
position_apart {j} {i} {x} {y} {first} {last} {f} {l} {t} {u} g h =
    paper_apart {r = position_of j x first last (length t)} {q = position_of i y f l (length u)} (sym (position_paper g) ∙ position_paper h)
