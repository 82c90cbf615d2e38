-- A movement and its complements put into their part, as the code comes to them.
use mathlib.Core.Path.{◌≡◌, refl, sym, ap, ap₂, ◌∙◌}
use mathlib.Core.Bool.{Bool, true, false, ◌&&◌}
use mathlib.Core.List.{List, ◌++◌, append-nil}
use Prim.Native.Nat.{ℕ, ◌-◌, ◌≤◌}
use native.Mathlib.Omega.{arith}
use lib.Dec.{eqb}
use lib.ListN.{length, take, drop, length-append, drop_of_length-le}
use lib.Seq.{take_at, drop_at, take_all, length-take-le}
use borrow.Author.Tests.{eqb-true}
use borrow.Rule.Slice.PartMut.{put_mid}
use Rattle.zones.specs.Choice.{pick}
use Rattle.grammar.specs.declared.Key.{Key}
use Rattle.grammar.specs.Record.{movement}
use Rattle.records.specs.July.{record_size, write_movement}
use Rattle.records.proofs.Lawful.{july_lawful}
use Rattle.fields.specs.declared.Movement.{Movement}
use Rattle.writing.specs.Written.{posting_of, movement_holds, movement_put}
use Rattle.writing.proofs.Held.{movement_holds_lem}
use Rattle.writer.specs.Steps.{texts_put, group_put}

length_movement : (k : Key) (m : Movement) (x : List ℕ) → length (movement_put k m x) ≡ length x
unfolding movement_put
length_movement k m x = by (eqb (length x) record_size) (movement_holds k m) refl refl
  where
    by : (t u : Bool) → eqb (length x) record_size ≡ t → movement_holds k m ≡ u → length (pick (t && u) (write_movement k (posting_of m)) x) ≡ length x
    by true true p q = july_lawful.wide (movement k (posting_of m)) (sym (movement_holds_lem k m) ∙ q) ∙ sym (eqb-true (length x) record_size p)
    by true false p q = refl
    by false u p q = refl

pub group_put_lem : (k : Key) (m : Movement) (ts : List (List ℕ)) (out : List ℕ) {y z : List ℕ} → record_size ≤ length out → y ≡ movement_put k m (take record_size out)
    → z ≡ texts_put k m ts (take (length (y ++ drop record_size out) - record_size) (drop record_size (y ++ drop record_size out)))
    → put_mid record_size (length (y ++ drop record_size out) - record_size) (y ++ drop record_size out) z ≡ group_put k m ts out
unfolding group_put
group_put_lem k m ts out {y} {z} h p q =
    let R = drop record_size out in
    let l : length y ≡ record_size = ap length p ∙ length_movement k m (take record_size out) ∙ length-take-le record_size out h in
    let n : length (y ++ R) - record_size ≡ length R = omega (arith, length-append y R, l) in
    let d : drop record_size (y ++ R) ≡ R = drop_at y R record_size l in
    let w : length R ≤ length R = omega arith in
    let g : z ≡ texts_put k m ts R = rw (n, d, take_all (length R) R w) at q in
    rw (n, d, take_at y R record_size l, drop_of_length-le R w, append-nil z) (ap₂ ◌++◌ p g)
