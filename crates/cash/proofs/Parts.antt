-- Parts of a list of movements, and sums by parts.
use mathlib.Core.Path.{◌≡◌, refl, sym, ◌∙◌}
use mathlib.Core.Bool.{Bool, true, false}
use mathlib.Core.List.{List, [], ◌∷◌}
use Prim.Native.Nat.{ℕ, zero, suc, ◌*◌, ◌≤◌}
use native.Mathlib.Omega.{arith}
use lib.ListN.{length, take}
use lib.IntN.{ℤ, pos, neg_ℤ, nat_abs, ◌+ℤ◌, +ℤ_idl, +ℤ_invr}
use Rattle.zones.specs.Choice.{pick}
use Rattle.amounts.specs.Amounts.{most_amount}
use Rattle.amounts.proofs.Whole.{abs_add}
use Rattle.framing.specs.Files.{All}
use Rattle.fields.specs.declared.Valued.{Valued}
use Rattle.cash.specs.Value.{total, chosen}
use Rattle.cash.proofs.Tied.{Small, Part, none, kept, left}
use Rattle.cash.proofs.Group.{medial, abs_neg}

pub part_chosen : (p : Valued → Bool) (ms : List Valued) → Part (chosen p ms) ms
unfolding chosen
part_chosen p [] = none
part_chosen p (m ∷ ms) = by (p m) (part_chosen p ms)
  where
    by : (t : Bool) → Part (chosen p ms) ms → Part (pick t (m ∷ chosen p ms) (chosen p ms)) (m ∷ ms)
    by true q = kept q
    by false q = left q

pub part_none : (ms : List Valued) → Part [] ms
part_none [] = none
part_none (m ∷ ms) = left (part_none ms)

pub part_take : (n : ℕ) (ms : List Valued) → Part (take n ms) ms
part_take zero ms = part_none ms
part_take (suc n) [] = none
part_take (suc n) (m ∷ ms) = kept (part_take n ms)

pub part_all : (ms : List Valued) → Part ms ms
part_all [] = none
part_all (m ∷ ms) = kept (part_all ms)

pub part_part : {xs ys zs : List Valued} → Part ys zs → Part xs ys → Part xs zs
part_part none p = p
part_part (kept q) (kept p) = kept (part_part q p)
part_part (kept q) (left p) = left (part_part q p)
part_part (left q) p = left (part_part q p)

-- the sum of a part less the sum of the rest
unfoldable pub apart : {ts ms : List Valued} → Part ts ms → ℤ
apart none = pos 0
apart (kept {m} p) = m.amount +ℤ apart p
apart (left {m} p) = neg_ℤ m.amount +ℤ apart p

-- twice a part is the whole and that
pub twice : {ts ms : List Valued} (p : Part ts ms) → total ts +ℤ total ts ≡ total ms +ℤ apart p
unfolding total apart
twice none = refl
twice (kept {m} {ts} {ms} p) =
    medial m.amount (total ts) m.amount (total ts) ∙ rw (twice p) (medial m.amount m.amount (total ms) (apart p))
twice (left {m} {ts} {ms} p) =
    twice p ∙ sym (medial m.amount (total ms) (neg_ℤ m.amount) (apart p) ∙ rw (+ℤ_invr m.amount) (+ℤ_idl (total ms +ℤ apart p)))

pub apart_small : {ts ms : List Valued} (p : Part ts ms) → All (λ (m : Valued). Small m.amount) ms → nat_abs (apart p) ≤ length ms * most_amount
unfolding apart
apart_small none a = omega arith
apart_small (kept {m} p) a = omega (arith, abs_add m.amount (apart p), a.0, apart_small p a.1)
apart_small (left {m} p) a = omega (arith, abs_add (neg_ℤ m.amount) (apart p), abs_neg m.amount, a.0, apart_small p a.1)
