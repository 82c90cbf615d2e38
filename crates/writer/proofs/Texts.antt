-- The texts of a movement: the test in one pass says that each fits a 05, and that at most one is an MMO.
use mathlib.Core.Path.{◌≡◌, refl}
use mathlib.Core.Bool.{Bool, true, false, not, ◌&&◌, ◌||◌, false≢true}
use mathlib.Core.List.{List, [], ◌∷◌}
use Prim.Native.Nat.{ℕ, ◌+◌, ◌≤◌}
use native.Mathlib.Omega.{arith}
use Rattle.zones.specs.Choice.{pick}
use Rattle.zones.proofs.Bools.{and_left, and_right, both}
use Rattle.framing.specs.Files.{All}
use Rattle.grammar.specs.Statements.{mmos}
use Rattle.records.specs.July.{is_mmo, july2004}
use Rattle.writing.specs.Written.{text_holds}
use Rattle.writer.specs.Test.{texts_hold}

-- an MMO counts one
abbrev pub bit : Bool → ℕ
bit t = pick t 1 0

pub record Fine (seen : Bool) (ts : List (List ℕ)) : Type 0 where
  pub each : All (λ t. text_holds t ≡ true) ts
  pub single : bit seen + mmos july2004 ts ≤ 1

bit_most : (t : Bool) → bit t + 0 ≤ 1
bit_most true = omega arith
bit_most false = omega arith

-- one text more
seen_more : (s m : Bool) (n : ℕ) → not (s && m) ≡ true → bit (s || m) + n ≤ 1 → bit s + (bit m + n) ≤ 1
seen_more true true n h l = absurd (false≢true h)
seen_more true false n h l = omega arith
seen_more false true n h l = omega arith
seen_more false false n h l = omega arith

seen_less : (s m : Bool) (n : ℕ) → bit s + (bit m + n) ≤ 1 → (not (s && m) ≡ true) × (bit (s || m) + n ≤ 1)
seen_less true true n l = absurd (omega arith)
seen_less true false n l = (refl, omega arith)
seen_less false true n l = (refl, omega arith)
seen_less false false n l = (refl, omega arith)

pub texts_fine : (ok seen : Bool) (ts : List (List ℕ)) → texts_hold ok seen ts ≡ true → (ok ≡ true) × Fine seen ts
unfolding texts_hold mmos
texts_fine ok seen [] h = (h, record { each = tt; single = bit_most seen })
texts_fine ok seen (t ∷ ts) h =
    let i = texts_fine (ok && (text_holds t && not (seen && is_mmo t))) (seen || is_mmo t) ts h in
    let r = and_right ok _ i.0 in (
      and_left ok _ i.0,
      record {
        each = (and_left (text_holds t) _ r, i.1.each);
        single = seen_more seen (is_mmo t) (mmos july2004 ts) (and_right (text_holds t) _ r) i.1.single;
      },
    )

pub texts_hold_lem : (ok seen : Bool) (ts : List (List ℕ)) → ok ≡ true → Fine seen ts → texts_hold ok seen ts ≡ true
unfolding texts_hold mmos
texts_hold_lem ok seen [] o f = o
texts_hold_lem ok seen (t ∷ ts) o f =
    let l = seen_less seen (is_mmo t) (mmos july2004 ts) f.single in
    texts_hold_lem (ok && (text_holds t && not (seen && is_mmo t))) (seen || is_mmo t) ts (both o (both f.each.0 l.0)) (record { each = f.each.1; single = l.1 })
