-- WHAT FOLLOWS: a new statement beside the last one of its account, in the paper's words; then the settled vectors.
use mathlib.Core.Path.{◌≡◌, refl}
use mathlib.Core.Bool.{Bool, true, false}
use mathlib.Core.Logic.{◌↔◌}
use mathlib.Core.List.{List, [], ◌∷◌, ◌++◌}
use Prim.Native.Nat.{ℕ, ◌<◌}
use Prim.Native.String.{String}
use native.Mathlib.Omega.{arith}
use lib.IntN.{ℤ, pos}
use borrow.Author.Tests.{lt-leb}
use Rattle.zones.specs.Class.{every}
use Rattle.zones.specs.Number.{value_from}
use Rattle.zones.specs.Text.{bytes}
use Rattle.std.specs.Prelude.{Option, Some, None}
use Rattle.dates.specs.Days.{year_of, days_in, exists, day_of, date_of}
use Rattle.grammar.specs.Statements.{Statement}
use Rattle.journal_layout.specs.declared.Judgement.{Judgement}
use Rattle.journal_layout.specs.declared.Judgement.TheVariants.{First, After}
use Rattle.journal_layout.specs.Chains.{held_among, judgement_of, follows_by, follows, Links, of_account}
use Rattle.journal_layout.specs.Former.{FormerLinks}
use Rattle.journal_layout.proofs.Chain.{last_account, last_snoc, links, linked}

-- s is not held, and h is the last of its account
module _ (s : Statement) (ss before : List Statement) (h : Statement) (n : held_among s ss ≡ false) (o : of_account s.key ss ≡ before ++ (h ∷ [])) where
  -- it follows exactly if it links
  pub follows_exact : (follows s ss ≡ true) ↔ Links h s
  unfolding judgement_of
  follows_exact = rw (n, last_account s.key First ss, o, last_snoc First before h) (links h s, linked h s)

  -- one that begins before the account's last new date never follows: what was passed over cannot be stored
  pub passed_over : s.old_date < h.new_date → follows s ss ≡ false
  unfolding judgement_of
  passed_over l = rw (n, last_account s.key First ss, o, last_snoc First before h, lt-leb h.new_date s.old_date l)

-- ---- the account's last ends on Friday, 281125, with 100

abbrev friday : Judgement
friday = After 20251128 (pos 100)

-- whether a statement follows it whose 01 has this date and this balance
abbrev next : Option ℕ → ℤ → Bool
next (Some k) a = follows_by friday k a
next None a = false

abbrev Follows : String → ℤ → Bool → Type 0
Follows date a answer = next (date_of (bytes date)) a ≡ answer

pub record Vectors : Type 0 where
  pub sunday : Follows "301125" (pos 100) true
  pub same_day : Follows "281125" (pos 100) true
  -- a later day, though its bytes are less
  pub next_month : Follows "011225" (pos 100) true
  pub day_before : Follows "271125" (pos 100) false
  -- an earlier day, though its bytes are greater
  pub month_before : Follows "291025" (pos 100) false
  -- in 1980
  pub first_of_all : Follows "010180" (pos 100) false
  pub other_balance : Follows "301125" (pos 101) false

pub vectors : Vectors
unfolding date_of day_of year_of exists days_in every value_from
vectors =
    record {
      sunday = refl;
      same_day = refl;
      next_month = refl;
      day_before = refl;
      month_before = refl;
      first_of_all = refl;
      other_balance = refl;
    }

-- the link is wider than it was: from Friday to Sunday
pub not_former : (s t : Statement) → s.new_date ≡ 20251128 → t.old_date ≡ 20251130 → FormerLinks s t → ⊥
not_former s t p q l = let d = l.date in omega arith
