-- THE EARLIEST OLD DATE of a file: at or before that of every statement, one of them, and 0 exactly where there is none.
use mathlib.Core.Path.{◌≡◌, refl, sym, ◌∙◌}
use mathlib.Core.Bool.{Bool, true, false, ◌||◌}
use mathlib.Core.Logic.{◌↔◌, ◌⊎◌, inl, inr}
use mathlib.Core.List.{List, [], ◌∷◌}
use Prim.Native.Nat.{ℕ, zero, suc, ◌<◌, ◌≤◌}
use native.Mathlib.Omega.{arith}
use lib.Dec.{eqb, ltb}
use lib.ListN.{length, get_or}
use borrow.Author.Tests.{eqb-true, eqb-false, ltb-true, ltb-false}
use Rattle.zones.specs.Choice.{pick}
use Rattle.dates.specs.Days.{is_day}
use Rattle.dates.proofs.Ordinals.{parts}
use Rattle.framing.specs.declared.Form.{Form}
use Rattle.grammar.specs.Statements.{Statement, records_of, all_records}
use Rattle.grammar.specs.Files.{Reads, statements_of}
use Rattle.grammar.specs.Parts.{no_statement}
use Rattle.records.specs.July.{coding_of}
use Rattle.records.proofs.Theorems.{counts, reads, unique, part_reads}
use Rattle.records.proofs.Zones.{opening_day}
use Rattle.contents.specs.Earliest.{earlier_of, earliest_from, earliest_of, beginning_of}
use Rattle.std.specs.Prelude.{Ok}

-- ---- two days

record Earlier (kept day r : ℕ) : Type 0 where
  before : r ≤ day
  before_kept : 0 < kept → r ≤ kept
  some : 0 < day → 0 < r
  one_of : (r ≡ kept) ⊎ (r ≡ day)

earlier_is : (kept day : ℕ) → Earlier kept day (earlier_of kept day)
unfolding earlier_of
earlier_is kept day = by (eqb kept 0) (ltb day kept) refl refl
  where
    by : (t u : Bool) → eqb kept 0 ≡ t → ltb day kept ≡ u → Earlier kept day (pick (t || u) day kept)
    by true u p q = let z = eqb-true kept 0 p in record { before = omega arith; before_kept = λ h. omega arith; some = λ h. omega arith; one_of = inr refl }
    by false true p q = let z = ltb-true day kept q in record { before = omega arith; before_kept = λ h. omega arith; some = λ h. omega arith; one_of = inr refl }
    by false false p q = let y = eqb-false kept 0 p in let z = ltb-false day kept q in record { before = z; before_kept = λ h. omega arith; some = λ h. omega arith; one_of = inl refl }

-- ---- a day and the old dates of some statements

-- each old date is a day, and not 0
abbrev Some : List Statement → Type 0
Some ss = (j : ℕ) → j < length ss → 0 < (get_or ss j no_statement).old_date

others : (s : Statement) (ss : List Statement) → Some (s ∷ ss) → Some ss
others s ss o j h = o (suc j) (omega arith)

first_some : (s : Statement) (ss : List Statement) → Some (s ∷ ss) → 0 < s.old_date
first_some s ss o = o 0 (omega arith)

from_kept : (kept : ℕ) (ss : List Statement) → Some ss → 0 < kept → earliest_from kept ss ≤ kept
unfolding earliest_from
from_kept kept [] o h = omega arith
from_kept kept (s ∷ ss) o h =
    let e = earlier_is kept s.old_date in
    let a = from_kept (earlier_of kept s.old_date) ss (others s ss o) (e.some (first_some s ss o)) in
    let b = e.before_kept h in
    omega arith

from_each : (kept : ℕ) (ss : List Statement) → Some ss → (j : ℕ) → j < length ss → earliest_from kept ss ≤ (get_or ss j no_statement).old_date
unfolding earliest_from
from_each kept [] o j h = absurd (omega arith)
from_each kept (s ∷ ss) o zero h =
    let e = earlier_is kept s.old_date in
    let a = from_kept (earlier_of kept s.old_date) ss (others s ss o) (e.some (first_some s ss o)) in
    let b = e.before in
    omega arith
from_each kept (s ∷ ss) o (suc j) h = from_each (earlier_of kept s.old_date) ss (others s ss o) j (omega arith)

-- one of them has this old date
abbrev pub Among : List Statement → ℕ → Type 0
Among ss d = (j : ℕ) × ((j < length ss) × ((get_or ss j no_statement).old_date ≡ d))

from_one : (kept : ℕ) (ss : List Statement) → (earliest_from kept ss ≡ kept) ⊎ Among ss (earliest_from kept ss)
unfolding earliest_from
from_one kept [] = inl refl
from_one kept (s ∷ ss) = by (from_one (earlier_of kept s.old_date) ss) (earlier_is kept s.old_date).one_of
  where
    by : {d e : ℕ} → (d ≡ e) ⊎ Among ss d → (e ≡ kept) ⊎ (e ≡ s.old_date) → (d ≡ kept) ⊎ Among (s ∷ ss) d
    by (inl p) (inl q) = inl (p ∙ q)
    by (inl p) (inr q) = inr (0, (omega arith, sym (p ∙ q)))
    by (inr (j, (h, p))) q = inr (suc j, (omega arith, p))

-- a day is kept from the first statement on
from_some : (kept : ℕ) (ss : List Statement) → Some ss → 0 < kept → 0 < earliest_from kept ss
from_some kept ss o h = by (from_one kept ss)
  where
    by : {d : ℕ} → (d ≡ kept) ⊎ Among ss d → 0 < d
    by (inl p) = omega arith
    by (inr (j, (l, p))) = let g = o j l in omega arith

of_some : (ss : List Statement) → Some ss → 0 < length ss → 0 < earliest_of ss
unfolding earliest_from
of_some [] o h = absurd (omega arith)
of_some (s ∷ ss) o h = from_some (earlier_of 0 s.old_date) ss (others s ss o) ((earlier_is 0 s.old_date).some (first_some s ss o))

-- ---- the statements of an accepted file

module _ {f : Form} {b : List ℕ} {ss : List Statement} (r : Reads (coding_of f) f b ss) where
  -- their old dates are days that exist
  pub old_day : (j : ℕ) → j < length ss → is_day (get_or ss j no_statement).old_date ≡ true
  unfolding all_records records_of
  old_day j h = let s = get_or ss j no_statement in opening_day s.key s.old_date s.old_balance (part_reads r j h).ok.0

  old_some : Some ss
  old_some j h = let p = (parts (get_or ss j no_statement).old_date (old_day j h)).low in omega arith

  -- THE EARLIEST: at or before the old date of every statement
  pub earliest_before : (j : ℕ) → j < length ss → earliest_of ss ≤ (get_or ss j no_statement).old_date
  earliest_before = from_each 0 ss old_some

  -- the old date of one of them, where there is one
  pub earliest_among : 0 < length ss → Among ss (earliest_of ss)
  earliest_among l = by (from_one 0 ss) (of_some ss old_some l)
    where
      by : {d : ℕ} → (d ≡ 0) ⊎ Among ss d → 0 < d → Among ss d
      by (inl p) h = absurd (omega arith)
      by (inr a) h = a

  -- so it is a day that exists
  pub earliest_day : 0 < length ss → is_day (earliest_of ss) ≡ true
  earliest_day l = let a = earliest_among l in rw (← a.1.1) (old_day a.0 a.1.0)

  -- 0 exactly where there is none
  pub earliest_none : (earliest_of ss ≡ 0) ↔ (length ss ≡ 0)
  unfolding earliest_from
  earliest_none = (λ z. by (length ss) refl z, λ z. none ss z)
    where
      none : (ts : List Statement) → length ts ≡ 0 → earliest_of ts ≡ 0
      none [] e = refl
      none (t ∷ ts) e = absurd (omega arith)

      by : (n : ℕ) → length ss ≡ n → earliest_of ss ≡ 0 → n ≡ 0
      by zero l z = refl
      by (suc n) l z = absurd (let h = of_some ss old_some (omega arith) in omega arith)

  -- it is what is answered
  pub earliest_told : beginning_of f b ≡ Ok (earliest_of ss)
  unfolding beginning_of
  earliest_told = let q : statements_of (coding_of f) f b ≡ ss = unique (reads f b (counts r)) r in rw (counts r, q)
