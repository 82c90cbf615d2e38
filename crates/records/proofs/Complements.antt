-- 05: its bytes are its code, what it repeats, five blanks, its text and two blanks.
use mathlib.Core.Path.{◌≡◌, refl, sym, ap, ◌∙◌}
use mathlib.Core.Bool.{Bool, true, false}
use mathlib.Core.List.{List, ◌++◌}
use Prim.Native.Nat.{ℕ}
use native.Mathlib.Omega.{arith}
use lib.ListN.{length, take, drop, replicate, length-append, length-drop, take-append-drop}
use lib.Seq.{length-take-le, take_all, take_at, drop_at, drop-drop, take-take}
use Rattle.zones.specs.Choice.{pick}
use Rattle.zones.specs.Class.{permitted, blank, all}
use Rattle.zones.specs.Copy.{same_bytes}
use Rattle.zones.specs.Text.{bytes}
use Rattle.zones.proofs.Bools.{both}
use Rattle.zones.proofs.Every.{blanks_are}
use Rattle.zones.proofs.Copies.{same_equal, equal_same}
use Rattle.layouts.specs.Zone as Z
use Rattle.layouts.specs.Zone.{part, zone, zoned, dated, run}
use Rattle.layouts.proofs.PerLayout.{zone_at, fits_permitted}
use Rattle.records.specs.Layouts.{layout05, layout_mmo}
use Rattle.records.specs.July.{record_size, text_size, is_code, is_mmo, layout05_of, write_complement}
use Rattle.records.proofs.Covered.{covers05, covers_mmo}
use Rattle.records.proofs.Valued.{Judged}

-- five pieces of a record
split : (b : List ℕ) → part 1 2 b ++ (part 3 40 b ++ (part 41 45 b ++ (part 46 118 b ++ drop 118 b))) ≡ b
split b =
    rw (← drop-drop text_size 45 b, take-append-drop text_size (drop 45 b), ← drop-drop 5 40 b, take-append-drop 5 (drop 40 b), ← drop-drop 38 2 b, take-append-drop 38 (drop 2 b))
    (take-append-drop 2 b)

pieces : {a c m n l k : List ℕ} (e t : List ℕ) → a ≡ c → m ≡ n → l ≡ k → a ++ (e ++ (m ++ (t ++ l))) ≡ c ++ (e ++ (n ++ (t ++ k)))
pieces e t p q r = rw (p, q, r)

-- the blanks of a 05, by either layout
record Blanks (b : List ℕ) : Type 0 where
  middle : all blank (part 41 45 b) ≡ true
  last : all blank (part 119 120 b) ≡ true

plain_blanks : (b : List ℕ) → run zoned layout05 b ≡ true → Blanks b
plain_blanks b h =
    record {
      middle = zone_at zoned layout05 b 10 (zone 0 0 Z.blanks) (omega arith) h;
      last = zone_at zoned layout05 b 13 (zone 0 0 Z.blanks) (omega arith) h;
    }

mmo_blanks : (b : List ℕ) → run zoned layout_mmo b ≡ true → Blanks b
mmo_blanks b h =
    record {
      middle = zone_at zoned layout_mmo b 10 (zone 0 0 Z.blanks) (omega arith) h;
      last = zone_at zoned layout_mmo b 16 (zone 0 0 Z.blanks) (omega arith) h;
    }

blanks : (b : List ℕ) → run zoned (layout05_of (part 46 118 b)) b ≡ true → Blanks b
blanks b = by (is_mmo (part 46 118 b))
  where
    by : (t : Bool) → run zoned (pick t layout_mmo layout05) b ≡ true → Blanks b
    by true h = mmo_blanks b h
    by false h = plain_blanks b h

-- what a 05 holds is written as it stood
pub complement_again : (b : List ℕ) → length b ≡ record_size → is_code "05" b ≡ true → Judged (layout05_of (part 46 118 b)) b → write_complement (part 3 40 b) (part 46 118 b) ≡ b
unfolding write_complement
complement_again b l c j =
    let z = blanks b j.zones in
    let m : length (part 41 45 b) ≡ 5 = length-take-le 5 (drop 40 b) (rw length-drop (omega arith)) in
    let n : length (part 119 120 b) ≡ 2 = length-take-le 2 (drop 118 b) (rw length-drop (omega arith)) in
    let t : part 119 120 b ≡ drop 118 b = take_all 2 (drop 118 b) (rw length-drop (omega arith)) in
    let x : replicate 5 32 ≡ part 41 45 b = ap (λ k. replicate k 32) (sym m) ∙ sym (blanks_are (part 41 45 b) z.middle) in
    let y : replicate 2 32 ≡ drop 118 b = ap (λ k. replicate k 32) (sym n) ∙ (sym (blanks_are (part 119 120 b) z.last) ∙ t) in
    pieces (part 3 40 b) (part 46 118 b) (same_equal (bytes "05") (part 1 2 b) c) x y ∙ split b

-- where the pieces of a 05 stand
pub record Placed (e t : List ℕ) : Type 0 where
  pub code : part 1 2 (write_complement e t) ≡ bytes "05"
  pub repeated : part 3 40 (write_complement e t) ≡ e
  pub text : part 46 118 (write_complement e t) ≡ t
  pub size : length (write_complement e t) ≡ record_size

pub placed : (e t : List ℕ) → length e ≡ 38 → length t ≡ text_size → Placed e t
unfolding write_complement
placed e t p q =
    let r = replicate 5 32 ++ (t ++ replicate 2 32) in
    record {
      code = refl;
      repeated = take_at e r 38 p;
      text = ap (take text_size) (sym (drop-drop 5 38 (e ++ r)) ∙ ap (drop 5) (drop_at e r 38 p)) ∙ take_at t (replicate 2 32) text_size q;
      size = omega (arith, length-append e r, length-append t (replicate 2 32));
    }

-- a 05's record that fits, by either layout, is of permitted bytes
pub complement_permitted : (e t : List ℕ) → Placed e t → Judged (layout05_of t) (write_complement e t) → all permitted (write_complement e t) ≡ true
unfolding is_mmo
complement_permitted e t p j = by (is_mmo t) refl j.zones j.dates
  where
    code : same_bytes (bytes "05") (part 1 2 (write_complement e t)) ≡ true
    code = rw p.code (equal_same (bytes "05"))

    qualifier : is_mmo t ≡ true → same_bytes (bytes "MMO") (part 46 48 (write_complement e t)) ≡ true
    qualifier m = rw (take-take 3 text_size (drop 45 (write_complement e t)) (omega arith)) at (rw (← p.text) at m)

    by : (x : Bool) → is_mmo t ≡ x → run zoned (pick x layout_mmo layout05) (write_complement e t) ≡ true
        → run dated (pick x layout_mmo layout05) (write_complement e t) ≡ true → all permitted (write_complement e t) ≡ true
    by true m z d =
        fits_permitted record_size layout_mmo (write_complement e t) covers_mmo p.size (record { marks = both code (qualifier m); zones = z; dates = d })
    by false m z d =
        fits_permitted record_size layout05 (write_complement e t) covers05 p.size (record { marks = code; zones = z; dates = d })
