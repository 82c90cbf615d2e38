-- Tests on values and what they say; lists of rules and their first number.
use mathlib.Core.Path.{◌≡◌, refl, ap}
use mathlib.Core.Bool.{Bool, true, false, ◌||◌}
use mathlib.Core.List.{List, [], ◌∷◌}
use Prim.Native.Nat.{ℕ, ◌<◌}
use native.Mathlib.Omega.{arith}
use lib.Dec.{eqb}
use lib.IntN.{ℤ, pos, negsuc}
use borrow.Author.Tests.{eq-eqb, eqb-true}
use Rattle.zones.specs.Choice.{pick}
use Rattle.zones.specs.Copy.{same_bytes}
use Rattle.zones.proofs.Bools.{and_left, and_right, both}
use Rattle.zones.proofs.Copies.{same_equal, equal_same}
use Rattle.framing.specs.Files.{All}
use Rattle.grammar.specs.declared.Key.{Key}
use Rattle.grammar.specs.Answer.{Rule, first_of}
use Rattle.grammar.specs.Record.{same_key, same_amount}

-- no test is both passed and failed
pub clash : {t : Bool} → t ≡ true → t ≡ false → ⊥
clash p q = let z : ◌≡◌ {A = ℕ} 0 1 = cc in omega arith

-- laws of `or`
pub or_none : (a : Bool) → a ≡ (a || false)
or_none true = refl
or_none false = refl

pub or_assoc : (a b c : Bool) → ((a || b) || c) ≡ (a || (b || c))
or_assoc true b c = refl
or_assoc false b c = refl

-- two keys pass the test exactly if they are equal
pub same_key_true : (a b : Key) → same_key a b ≡ true → a ≡ b
unfolding same_key
same_key_true a b h =
    let t = and_right (same_bytes a.bank b.bank) _ h in
    let u = and_right (same_bytes a.branch b.branch) _ t in
    let v = and_right (same_bytes a.currency b.currency) _ u in
    let bank = same_equal _ _ (and_left (same_bytes a.bank b.bank) _ h) in
    let branch = same_equal _ _ (and_left (same_bytes a.branch b.branch) _ t) in
    let currency = same_equal _ _ (and_left (same_bytes a.currency b.currency) _ u) in
    let decimals = eqb-true _ _ (and_left (eqb a.decimals b.decimals) _ v) in
    let account = same_equal _ _ (and_right (eqb a.decimals b.decimals) _ v) in
    λ i. record { bank = bank i; branch = branch i; currency = currency i; decimals = decimals i; account = account i }

-- every key is the same as itself
pub same_key_self : (a : Key) → same_key a a ≡ true
unfolding same_key
same_key_self a =
    both (equal_same a.bank)
    (both (equal_same a.branch)
    (both (equal_same a.currency) (both (eq-eqb a.decimals a.decimals refl) (equal_same a.account))))

-- and so do two amounts
pub same_amount_true : (x y : ℤ) → same_amount x y ≡ true → x ≡ y
same_amount_true (pos a) (pos b) e = ap pos (eqb-true a b e)
same_amount_true (pos a) (negsuc b) e = absurd (clash e refl)
same_amount_true (negsuc a) (pos b) e = absurd (clash e refl)
same_amount_true (negsuc a) (negsuc b) e = ap negsuc (eqb-true a b e)

-- every amount is the same as itself
pub same_amount_self : (x : ℤ) → same_amount x x ≡ true
same_amount_self (pos a) = eq-eqb a a refl
same_amount_self (negsuc a) = eq-eqb a a refl

-- no rule of the list applies
abbrev pub Off : List Rule → Type 0
Off xs = All (λ x. x.applies ≡ false) xs

-- the numbers rise from m on
abbrev pub Rises : ℕ → List Rule → Type 0
Rises m [] = Unit
Rises m (x ∷ xs) = (m < x.number) × Rises x.number xs

-- the first number is 0 exactly if no rule applies
pub off : (m : ℕ) (xs : List Rule) → Rises m xs → first_of xs ≡ 0 → Off xs
off m [] g e = tt
off m (x ∷ xs) g e = let p = zero_pick x.applies (omega arith) e in (p.0, off x.number xs g.1 p.1)
  where
    zero_pick : (t : Bool) → (x.number ≡ 0 → ⊥) → pick t x.number (first_of xs) ≡ 0 → (t ≡ false) × (first_of xs ≡ 0)
    zero_pick true f e = absurd (f e)
    zero_pick false f e = (refl, e)

-- and the other way round
pub of_off : (xs : List Rule) → Off xs → first_of xs ≡ 0
of_off [] h = refl
of_off (x ∷ xs) h = rw h.0 (of_off xs h.1)
