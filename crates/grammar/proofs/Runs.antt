-- A machine accepts exactly the rows that are clean and end closed.
use mathlib.Core.Path.{◌≡◌, refl}
use mathlib.Core.Bool.{Bool, true, false}
use mathlib.Core.List.{List, [], ◌∷◌}
use Prim.Native.Nat.{ℕ, ◌+◌}
use native.Mathlib.Omega.{arith}
use lib.Dec.{eqb}
use borrow.Author.Tests.{eq-eqb, eqb-true}
use Rattle.zones.specs.Choice.{pick}
use Rattle.grammar.specs.Answer.{Counts, Answer, accepted, refused}
use Rattle.grammar.specs.Machine.{Machine, judge_of, scan, after}

-- a refusal is no acceptance
pub never : {k i : ℕ} {c : Counts} → refused k i ≡ accepted c → ⊥
never e = let z : ◌≡◌ {A = ℕ} 0 1 = cc in omega arith

-- an accepted answer did not come from a refusal
pub went : (t : Bool) (a : Answer) (k i : ℕ) {c : Counts} → pick t a (refused k i) ≡ accepted c → (t ≡ true) × (a ≡ accepted c)
went true a k i e = (refl, e)
went false a k i e = absurd (never e)

module _ (M : Machine) where
  -- no rule applies to any of the records
  abbrev pub Clean : M.State → List M.Record → Type 0
  Clean s [] = Unit
  Clean s (r ∷ rs) = (judge_of M s r ≡ 0) × Clean (M.taken s r) rs

  -- the row is clean and ends closed
  pub record Ran (s : M.State) (rs : List M.Record) : Type 0 where
    pub clean : Clean s rs
    pub closed : M.closed (after M s rs) ≡ true

  -- what is accepted is so
  pub ran : (rs : List M.Record) (i : ℕ) (s : M.State) {c : Counts} → scan M i s rs ≡ accepted c → Ran s rs
  unfolding scan
  ran [] i s e = record { clean = tt; closed = (went (M.closed s) _ _ _ e).0 }
  ran (r ∷ rs) i s e =
      let w = went (eqb (judge_of M s r) 0) _ _ _ e in
      let g = ran rs (i + 1) (M.taken s r) w.1 in
      record { clean = (eqb-true _ _ w.0, g.clean); closed = g.closed }

  -- what is so is accepted, with the counts of the last state
  pub runs : (rs : List M.Record) (i : ℕ) (s : M.State) → Ran s rs → scan M i s rs ≡ accepted (M.counts (after M s rs))
  unfolding scan
  runs [] i s g = rw g.closed
  runs (r ∷ rs) i s g =
      rw (eq-eqb (judge_of M s r) 0 g.clean.0) (runs rs (i + 1) (M.taken s r) (record { clean = g.clean.1; closed = g.closed }))
