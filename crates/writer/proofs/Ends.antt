-- The 01 and the 07 put around the rows, as the code comes to them.
use mathlib.Core.Path.{◌≡◌, refl, sym, ap, ap₂, ◌∙◌}
use mathlib.Core.Bool.{Bool, true, false, ◌&&◌}
use mathlib.Core.List.{List, ◌++◌, append_assoc}
use Prim.Native.Nat.{ℕ, ◌+◌, ◌-◌, ◌*◌, ◌≤◌}
use native.Mathlib.Omega.{arith}
use lib.Dec.{eqb, leb}
use lib.IntN.{ℤ}
use lib.ListN.{length, take, drop}
use lib.Seq.{drop_at, drop-drop, length-take-le, take-append-add}
use borrow.Author.Tests.{eqb-true, leb-true}
use borrow.Rule.Slice.PartMut.{put_mid}
use Rattle.zones.specs.Choice.{pick}
use Rattle.zones.proofs.Bools.{and_left, and_right}
use Rattle.grammar.specs.declared.Key.{Key}
use Rattle.grammar.specs.Record.{opening}
use Rattle.records.specs.July.{record_size, write_balance}
use Rattle.records.proofs.Lawful.{july_lawful}
use Rattle.contents.specs.declared.Head.{Head}
use Rattle.writing.specs.Written.{balance_holds, opening_put, closing_put}
use Rattle.writing.proofs.Held.{opening_holds}
use Rattle.writer.specs.Steps.{ends_put}

length_opening : (k : Key) (d : ℕ) (a : ℤ) (x : List ℕ) → length (opening_put k d a x) ≡ length x
unfolding opening_put
length_opening k d a x = by (eqb (length x) record_size) (balance_holds k d a) refl refl
  where
    by : (t u : Bool) → eqb (length x) record_size ≡ t → balance_holds k d a ≡ u → length (pick (t && u) (write_balance "01" k d a) x) ≡ length x
    by true true p q = july_lawful.wide (opening k d a) (sym (opening_holds k d a) ∙ q) ∙ sym (eqb-true (length x) record_size p)
    by true false p q = refl
    by false u p q = refl

pub bounds : (bytes n : ℕ) → (leb (2 * record_size) bytes && leb bytes n) ≡ true → (2 * record_size ≤ bytes) × (bytes ≤ n)
bounds bytes n e = (leb-true (2 * record_size) bytes (and_left (leb (2 * record_size) bytes) _ e), leb-true bytes n (and_right (leb (2 * record_size) bytes) _ e))

module _ (bytes : ℕ) (h : Head) (out : List ℕ) where
  module _ (e : (leb (2 * record_size) bytes && leb bytes (length out)) ≡ true) where
    some : 2 * record_size ≤ bytes
    some = (bounds bytes (length out) e).0

    inside : bytes ≤ length out
    inside = (bounds bytes (length out) e).1

    pub ends_put_lem : {y z : List ℕ} → y ≡ opening_put h.key h.old_date h.old_balance (take record_size out)
        → z ≡ closing_put h.key h.new_date h.new_balance (take (bytes - (bytes - record_size)) (drop (bytes - record_size) (put_mid 0 record_size out y)))
        → put_mid (bytes - record_size) (bytes - (bytes - record_size)) (put_mid 0 record_size out y) z ≡ ends_put bytes h out
    unfolding ends_put
    ends_put_lem {y} {z} p q =
        let n = bytes - 2 * record_size in
        let g = some in
        let r = inside in
        let i : bytes - (bytes - record_size) ≡ record_size = omega arith in
        let j : bytes - record_size ≡ record_size + n = omega arith in
        let l : length y ≡ record_size = ap length p ∙ length_opening h.key h.old_date h.old_balance (take record_size out) ∙ length-take-le record_size out (omega arith) in
        let R = drop record_size out in
        let a : drop (record_size + n) (y ++ R) ≡ drop (record_size + n) out =
        sym (drop-drop n record_size (y ++ R)) ∙ ap (drop n) (drop_at y R record_size l) ∙ drop-drop n record_size out in
        let b : take (record_size + n) (y ++ R) ≡ y ++ take n R = ap (λ (k : ℕ). take (k + n) (y ++ R)) (sym l) ∙ take-append-add y R n in
        let c : record_size + n + record_size ≡ bytes = omega arith in
        let d : drop record_size (drop (record_size + n) out) ≡ drop bytes out = drop-drop record_size (record_size + n) out ∙ ap (λ (k : ℕ). drop k out) c in
        let f : z ≡ closing_put h.key h.new_date h.new_balance (take record_size (drop (record_size + n) out)) = rw (i, j, a) at q in
        let u : put_mid (bytes - record_size) (bytes - (bytes - record_size)) (y ++ R) z ≡ (y ++ take n R) ++ (z ++ drop bytes out) = rw (i, j, b, a, d) in
        u ∙ append_assoc y (take n R) (z ++ drop bytes out) ∙ ap₂ (λ v w. v ++ (take n R ++ (w ++ drop bytes out))) p f ∙ sym (rw (e, j))
