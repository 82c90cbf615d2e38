-- A record's code decides its layout and its values.
use mathlib.Core.Path.{◌≡◌, refl, sym, ◌∙◌}
use mathlib.Core.Bool.{Bool, true, false, ◌||◌, false≢true}
use mathlib.Core.List.{List}
use Prim.Native.Nat.{ℕ}
use Prim.Native.String.{String}
use borrow.Author.Tests.{not-false}
use Rattle.zones.specs.Copy.{same_bytes}
use Rattle.zones.specs.Text.{bytes}
use Rattle.zones.proofs.Copies.{same_equal, equal_same}
use Rattle.layouts.specs.Zone.{part, Zone}
use Rattle.grammar.specs.Record.{Rec, opening, movement, complement, closing}
use Rattle.records.specs.Layouts.{layout01, layout04, layout07}
use Rattle.records.specs.July.{is_code, unknown_code, layout05_of, layout_for, key_in, date_in, amount_in, posting_in, decode_record}

-- the layout and the values of the bytes b
pub record As (b : List ℕ) (zs : List Zone) (r : Rec) : Type 0 where
  pub layout : layout_for b ≡ zs
  pub values : decode_record b ≡ r
  pub known : unknown_code b ≡ false

pub data Coded (b : List ℕ) : Type 0 where
  is01 : is_code "01" b ≡ true → As b layout01 (opening (key_in b) (date_in b) (amount_in b)) → Coded b
  is04 : is_code "04" b ≡ true → As b layout04 (movement (key_in b) (posting_in b)) → Coded b
  is05 : is_code "05" b ≡ true → As b (layout05_of (part 46 118 b)) (complement (part 3 40 b) (part 46 118 b)) → Coded b
  is07 : is_code "07" b ≡ true → As b layout07 (closing (key_in b) (date_in b) (amount_in b)) → Coded b

-- two codes are not both there
pub other : (c d : String) (b : List ℕ) → same_bytes (bytes c) (bytes d) ≡ false → is_code d b ≡ true → is_code c b ≡ false
other c d b n h = by (is_code c b) refl
  where
    by : (t : Bool) → is_code c b ≡ t → t ≡ false
    by true e =
        let q : bytes c ≡ bytes d = same_equal (bytes c) (part 1 2 b) e ∙ sym (same_equal (bytes d) (part 1 2 b) h) in
        absurd (false≢true (sym n ∙ rw q (equal_same (bytes d))))
    by false e = refl

pub as01 : (b : List ℕ) → is_code "01" b ≡ true → As b layout01 (opening (key_in b) (date_in b) (amount_in b))
unfolding layout_for decode_record unknown_code
as01 b h = record { layout = rw h; values = rw h; known = rw h }

pub as04 : (b : List ℕ) → is_code "04" b ≡ true → As b layout04 (movement (key_in b) (posting_in b))
unfolding layout_for decode_record unknown_code same_bytes
as04 b h =
    let a = other "01" "04" b refl h in
    record { layout = rw (a, h); values = rw (a, h); known = rw (a, h) }

pub as05 : (b : List ℕ) → is_code "05" b ≡ true → As b (layout05_of (part 46 118 b)) (complement (part 3 40 b) (part 46 118 b))
unfolding layout_for decode_record unknown_code same_bytes
as05 b h =
    let a = other "01" "05" b refl h in
    let c = other "04" "05" b refl h in
    record { layout = rw (a, c, h); values = rw (a, c, h); known = rw (a, c, h) }

pub as07 : (b : List ℕ) → is_code "07" b ≡ true → As b layout07 (closing (key_in b) (date_in b) (amount_in b))
unfolding layout_for decode_record unknown_code same_bytes
as07 b h =
    let a = other "01" "07" b refl h in
    let c = other "04" "07" b refl h in
    let d = other "05" "07" b refl h in
    record { layout = rw (a, c, d); values = rw (a, c, d); known = rw (a, c, d, h) }

-- a known code is one of the four
pub coded : (b : List ℕ) → unknown_code b ≡ false → Coded b
unfolding unknown_code
coded b h = by (is_code "01" b) (is_code "04" b) (is_code "05" b) (is_code "07" b) refl refl refl refl (not-false _ h)
  where
    by : (w x y z : Bool) → is_code "01" b ≡ w → is_code "04" b ≡ x → is_code "05" b ≡ y → is_code "07" b ≡ z → (w || (x || (y || z))) ≡ true → Coded b
    by true x y z p q r s e = is01 p (as01 b p)
    by false true y z p q r s e = is04 q (as04 b q)
    by false false true z p q r s e = is05 r (as05 b r)
    by false false false true p q r s e = is07 s (as07 b s)
    by false false false false p q r s e = absurd (false≢true e)
