-- The loops over the texts of a movement: what they keep, and what is left in the end.
use mathlib.Core.Path.{◌≡◌, refl, sym, ap, ◌∙◌}
use mathlib.Core.Bool.{Bool, true, false, not, ◌&&◌, ◌||◌}
use mathlib.Core.List.{List, [], ◌∷◌, ◌++◌, append_assoc}
use Prim.Native.Nat.{ℕ, ◌+◌, ◌-◌, ◌*◌, ◌/◌, ◌<◌, ◌≤◌}
use native.Mathlib.Nat.{add-sub_cancel_left}
use native.Mathlib.Omega.{arith}
use lib.Dec.{eqb}
use lib.ListN.{length, take, drop, length-append, length-drop, take-append-drop}
use lib.Seq.{take_at, drop_at, length-take-le}
use borrow.Author.Tests.{eqb-true}
use borrow.Rule.Slice.PartMut.{put_mid}
use Rattle.zones.specs.Choice.{pick}
use Rattle.zones.proofs.Bools.{and_left, and_right}
use Rattle.framing.specs.Files.{chunks}
use Rattle.framing.proofs.Chunks.{whole_chunks, whole_none, whole_more}
use Rattle.grammar.specs.declared.Key.{Key}
use Rattle.grammar.specs.Record.{complement}
use Rattle.records.specs.July.{record_size, text_size, repeats, is_mmo, write_complement}
use Rattle.records.proofs.Lawful.{july_lawful}
use Rattle.fields.specs.declared.Movement.{Movement}
use Rattle.writing.specs.Written.{posting_of, movement_holds, text_holds, complement_put}
use Rattle.writing.proofs.Held.{complement_held}
use Rattle.writer.specs.Test.{texts_hold}
use Rattle.writer.specs.Steps.{texts_put}

-- one text, and those behind it
next : {x : List ℕ} {w : ℕ} (c y : List ℕ) → w ≡ text_size → x ≡ c ++ y → length c ≡ w → whole_chunks text_size x ≡ c ∷ whole_chunks text_size y
next c y f e l = rw e (whole_more text_size c y (omega arith) (l ∙ f))

none : (x : List ℕ) {w : ℕ} → w ≡ text_size → length x < w → whole_chunks text_size x ≡ []
none x f h = whole_none text_size x (omega arith)

-- the test of some texts
module _ (b : List ℕ) where
  pub record Testing (ok seen : Bool) (x : List ℕ) (w : ℕ) : Type 0 where
    pub width : w ≡ text_size
    pub rest : texts_hold ok seen (whole_chunks text_size x) ≡ texts_hold true false (whole_chunks text_size b)

  module _ {ok seen : Bool} {x : List ℕ} {w : ℕ} (g : Testing ok seen x w) where
    pub tests_on : {t m : Bool} (c y : List ℕ) {v : ℕ} → x ≡ c ++ y → length c ≡ w → v ≡ w → t ≡ text_holds c → m ≡ is_mmo c
        → Testing (ok && (t && not (seen && m))) (seen || m) y v
    unfolding texts_hold
    tests_on c y e l f p q = record { width = f ∙ g.width; rest = rw (p, q) (sym (ap (texts_hold ok seen) (next c y g.width e l)) ∙ g.rest) }

    pub tests_end : length x < w → ok ≡ texts_hold true false (whole_chunks text_size b)
    unfolding texts_hold
    tests_end h = sym (ap (texts_hold ok seen) (none x g.width h)) ∙ g.rest

-- a record keeps its part's length
length_put : (k : Key) (m : Movement) (t x : List ℕ) → length (complement_put k m t x) ≡ length x
unfolding complement_put
length_put k m t x = by (eqb (length x) record_size) (movement_holds k m && text_holds t) refl refl
  where
    by : (a b : Bool) → eqb (length x) record_size ≡ a → (movement_holds k m && text_holds t) ≡ b → length (pick (a && b) (write_complement (repeats k (posting_of m)) t) x) ≡ length x
    by true true p q =
        july_lawful.wide (complement (repeats k (posting_of m)) t) (complement_held k m t (and_left (movement_holds k m) _ q) (and_right (movement_holds k m) _ q))
        ∙ sym (eqb-true (length x) record_size p)
    by true false p q = refl
    by false b p q = refl

-- the writing of some texts
module _ (k : Key) (m : Movement) (n : ℕ) (b out : List ℕ) where
  pub record Putting (i : ℕ) (o x : List ℕ) (w : ℕ) : Type 0 where
    pub width : w ≡ text_size
    pub upto : i + length x / text_size ≡ n
    pub same : length o ≡ n * record_size
    pub rest : take (i * record_size) o ++ texts_put k m (whole_chunks text_size x) (drop (i * record_size) o) ≡ texts_put k m (chunks text_size n b) out

  module _ {i : ℕ} {o x : List ℕ} {w : ℕ} (g : Putting i o x w) where
    abbrev a : ℕ
    a = i * record_size

    one_more : (c y : List ℕ) → x ≡ c ++ y → length c ≡ w → i + 1 + length y / text_size ≡ n
    one_more c y e l = omega (arith, g.width, g.upto, ap length e, length-append c y)

    part_inside : (c y : List ℕ) → x ≡ c ++ y → length c ≡ w → a + record_size ≤ length o
    part_inside c y e l = omega (arith, g.same, one_more c y e l)

    pub puts_on : (c y : List ℕ) {v : ℕ} {r : List ℕ} → x ≡ c ++ y → length c ≡ w → v ≡ w → r ≡ complement_put k m c (take (a + record_size - a) (drop a o))
        → Putting (i + 1) (put_mid a (a + record_size - a) o r) y v
    unfolding texts_put
    puts_on c y {v} {r} e l f q =
        let s = part_inside c y e l in
        let d = add-sub_cancel_left a record_size in
        let z : (i + 1) * record_size ≡ a + record_size = omega arith in
        let h : length (take record_size (drop a o)) ≡ record_size = length-take-le record_size (drop a o) (omega (arith, length-drop a o)) in
        let j : r ≡ complement_put k m c (take record_size (drop a o)) = rw d at q in
        let u : length r ≡ record_size = ap length j ∙ length_put k m c (take record_size (drop a o)) ∙ h in
        let la : length (take a o) ≡ a = length-take-le a o (omega arith) in
        let D = drop record_size (drop a o) in
        let p : take a o ++ (r ++ D) ≡ (take a o ++ r) ++ D = sym (append_assoc (take a o) r D) in
        let lr : length (take a o ++ r) ≡ a + record_size = omega (arith, length-append (take a o) r, la, u) in
        let T = texts_put k m (whole_chunks text_size y) D in
        rw d
        (record {
          width = f ∙ g.width;
          upto = one_more c y e l;
          same = ap length p ∙ length-append (take a o ++ r) D ∙ omega (arith, lr, length-drop record_size (drop a o), length-drop a o, g.same);
          rest =
              rw (z, p, take_at (take a o ++ r) D (a + record_size) lr, drop_at (take a o ++ r) D (a + record_size) lr)
              (append_assoc (take a o) r T ∙ ap (λ y. take a o ++ (y ++ T)) j ∙ sym (ap (λ ts. take a o ++ texts_put k m ts (drop a o)) (next c y g.width e l)) ∙ g.rest);
        })

    pub puts_end : length x < w → o ≡ texts_put k m (chunks text_size n b) out
    unfolding texts_put
    puts_end h =
        sym (take-append-drop a o) ∙ sym (ap (λ ts. take a o ++ texts_put k m ts (drop a o)) (none x g.width h)) ∙ g.rest
