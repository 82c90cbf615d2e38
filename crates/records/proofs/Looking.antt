-- A record's code and layout as the code tests them.
use mathlib.Core.Path.{◌≡◌, refl, ap, sym, ◌∙◌}
use mathlib.Core.Bool.{Bool, true, false, ◌&&◌, not}
use mathlib.Core.List.{List, [], ◌∷◌}
use Prim.Native.Nat.{ℕ}
use Rattle.std.proofs.Common.{◌⊎◌, inl, inr}
use Rattle.std.specs.Prelude.{Option, Some, None}
use native.Mathlib.Omega.{arith}
use lib.Dec.{eqb}
use lib.ListN.{length, take, drop, get_or}
use lib.Seq.{take-take}
use lib.IntN.{ℤ}
use borrow.Author.Tests.{eq-eqb, ne_eqb}
use Rattle.zones.specs.Choice.{pick}
use Rattle.zones.specs.Class.{permitted, in_class, all}
use Rattle.zones.specs.Copy.{same_bytes}
use Rattle.zones.specs.Text.{bytes}
use Rattle.zones.proofs.Bools.{and_one, conj}
use Rattle.zones.proofs.Every.{every_take, every_drop}
use Rattle.amounts.specs.Amounts.{is_amount, amount_of, signed_of, is_debit, magnitude}
use Rattle.std.specs.Prelude.{Some, None}
use Rattle.dates.specs.Days.{date_of}
use Rattle.layouts.specs.Zone.{part, Zone, zoned, dated, run, is_date}
use Rattle.records.specs.Layouts.{layout01, layout04, layout05, layout_mmo, layout07}
use Rattle.records.specs.July.{record_size, text_size, is_code, is_mmo, layout05_of, layout_for, misfit, undated, date_in, amount_in}
use Rattle.records.specs.Looks.{kind_of, judged_as, has_value, no_record, look_of}
use Rattle.records.specs.declared.Kind.{Kind}
use Rattle.records.specs.declared.Kind.TheVariants.{Opening, Movement, Complement, Closing}
use Rattle.records.specs.declared.Look.{Look}

-- a record's kind, by the two bytes of its code
two_bytes : (b : List ℕ) (first second : ℕ) → length b ≡ record_size → same_bytes (first ∷ second ∷ []) (part 1 2 b) ≡ (eqb first (get_or b 0 0) && eqb second (get_or b 1 0))
unfolding same_bytes
two_bytes [] first second h = absurd (omega arith)
two_bytes (x ∷ []) first second h = absurd (omega arith)
two_bytes (x ∷ y ∷ b) first second h = ap (λ (t : Bool). eqb first x && t) (and_one (eqb second y))

module _ (b : List ℕ) (l : length b ≡ record_size) where
  pub no_kind : (get_or b 0 0 ≡ 48 → ⊥) → None ≡ kind_of b
  unfolding kind_of
  no_kind h = let n = ne_eqb 48 (get_or b 0 0) (λ e. h (sym e)) in rw (two_bytes b 48 49 l, two_bytes b 48 52 l, two_bytes b 48 53 l, two_bytes b 48 55 l, n)

  pub kind_by : get_or b 0 0 ≡ 48
      → pick (eqb 49 (get_or b 1 0)) (Some Opening) (pick (eqb 52 (get_or b 1 0)) (Some Movement) (pick (eqb 53 (get_or b 1 0)) (Some Complement) (pick (eqb 55 (get_or b 1 0)) (Some Closing) None)))
      ≡ kind_of b
  unfolding kind_of
  kind_by h = rw (two_bytes b 48 49 l, two_bytes b 48 52 l, two_bytes b 48 53 l, two_bytes b 48 55 l, h)

  pub other_kind : get_or b 0 0 ≡ 48 → (get_or b 1 0 ≡ 49 → ⊥) → (get_or b 1 0 ≡ 52 → ⊥) → (get_or b 1 0 ≡ 53 → ⊥) → (get_or b 1 0 ≡ 55 → ⊥) → None ≡ kind_of b
  other_kind h p q r s =
      rw (ne_eqb 49 (get_or b 1 0) (λ e. p (sym e)), ne_eqb 52 (get_or b 1 0) (λ e. q (sym e)), ne_eqb 53 (get_or b 1 0) (λ e. r (sym e)), ne_eqb 55 (get_or b 1 0) (λ e. s (sym e))) at
      (kind_by h)

-- the qualifier of a text
pub qualifier : (b : List ℕ) → same_bytes (bytes "MMO") (part 46 48 b) ≡ is_mmo (part 46 118 b)
unfolding is_mmo
qualifier b = ap (same_bytes (bytes "MMO")) (sym (take-take 3 text_size (drop 45 b) (omega arith)))

pub value_amount : (z : List ℕ) → has_value (amount_of z) ≡ is_amount z
unfolding amount_of
value_amount z = by (is_amount z)
  where
    by : (t : Bool) → has_value (pick t (Some (signed_of (is_debit z) (magnitude z))) None) ≡ t
    by true = refl
    by false = refl

-- the layout of a kind, given the text of a 05
abbrev layout_by : Kind → List ℕ → List Zone
layout_by Opening t = layout01
layout_by Movement t = layout04
layout_by Complement t = layout05_of t
layout_by Closing t = layout07

judged_layout : (b : List ℕ) → layout_for b ≡ layout_by (judged_as b) (part 46 118 b)
unfolding kind_of layout_for
judged_layout b = by (is_code "01" b) (is_code "04" b) (is_code "05" b) (is_code "07" b) refl refl refl refl
  where
    by : (x y z w : Bool) → is_code "01" b ≡ x → is_code "04" b ≡ y → is_code "05" b ≡ z → is_code "07" b ≡ w → layout_for b ≡ layout_by (judged_as b) (part 46 118 b)
    by true y z w p q r s = rw p
    by false true z w p q r s = rw (p, q)
    by false false true w p q r s = rw (p, q, r)
    by false false false true p q r s = rw (p, q, r, s)
    by false false false false p q r s = rw (p, q, r, s)

-- the zones and dates of a record, by its kind
module _ (b : List ℕ) {k : Kind} (e : k ≡ judged_as b) where
  layout_is : layout_for b ≡ layout_by k (part 46 118 b)
  layout_is = judged_layout b ∙ ap (λ x. layout_by x (part 46 118 b)) (sym e)

  pub fit_balance : {t : Bool} → (k ≡ Opening) ⊎ (k ≡ Closing) → t ≡ run zoned layout01 b → t ≡ run zoned (layout_for b) b
  fit_balance {t = t} h p = rw layout_is (by h)
    where
      by : (k ≡ Opening) ⊎ (k ≡ Closing) → t ≡ run zoned (layout_by k (part 46 118 b)) b
      by (inl g) = rw g p
      by (inr g) = rw g p

  pub fit_four : {t : Bool} → k ≡ Movement → t ≡ run zoned layout04 b → t ≡ run zoned (layout_for b) b
  fit_four h p = rw (layout_is, h) p

  pub fit_mmo : {t : Bool} → k ≡ Complement → is_mmo (part 46 118 b) ≡ true → t ≡ run zoned layout_mmo b → t ≡ run zoned (layout_for b) b
  fit_mmo h m p = rw (layout_is, h, m) p

  pub fit_plain : {t : Bool} → k ≡ Complement → is_mmo (part 46 118 b) ≡ false → t ≡ run zoned layout05 b → t ≡ run zoned (layout_for b) b
  fit_plain h m p = rw (layout_is, h, m) p

  pub dates_four : {x y : Bool} → k ≡ Movement → x ≡ is_date (date_of (part 35 40 b)) → y ≡ is_date (date_of (part 43 48 b)) → (x && y) ≡ run dated (layout_for b) b
  dates_four h p q = rw (layout_is, h) (conj p q)

  pub dates_other : {x : Bool} → (k ≡ Movement → ⊥) → x ≡ is_date (date_of (part 35 40 b)) → x ≡ run dated (layout_for b) b
  dates_other h p = p ∙ rw layout_is (by k h (is_mmo (part 46 118 b)) refl)
    where
      by : (k : Kind) → (k ≡ Movement → ⊥) → (m : Bool) → is_mmo (part 46 118 b) ≡ m → is_date (date_of (part 35 40 b)) ≡ run dated (layout_by k (part 46 118 b)) b
      by Opening h m e = refl
      by Movement h m e = absurd (h refl)
      by Complement h true e = rw e
      by Complement h false e = rw e
      by Closing h m e = refl

-- all that the code knows of a record, from what it was told
pub looked : (b : List ℕ) → length b ≡ record_size → {m s d c : Bool} {k : Option Kind} {day : ℕ} {v : ℤ} → k ≡ kind_of b → s ≡ run zoned (layout_for b) b → d ≡ run dated (layout_for b) b
    → day ≡ date_in b → v ≡ amount_in b → m ≡ is_mmo (part 46 118 b) → c ≡ all permitted b
    → ◌≡◌ {A = Look} (record { kind = k; misfit = not s; undated = not d; day = day; amount = v; mmo = m; permitted = c }) (look_of b)
unfolding look_of misfit undated
looked b l q r s t u v w = rw (q, r, s, t, u, v, w, eq-eqb (length b) record_size l)

pub not_looked : (b : List ℕ) → (length b ≡ record_size → ⊥) → no_record ≡ look_of b
unfolding look_of
not_looked b h = rw (ne_eqb (length b) record_size h)

-- a part of permitted bytes is of permitted bytes
pub part_permitted : (n a : ℕ) (b : List ℕ) {c : Bool} → c ≡ all permitted b → c ≡ true → all permitted (take n (drop a b)) ≡ true
part_permitted n a b e h = every_take (in_class permitted) n (drop a b) (every_drop (in_class permitted) a b (sym e ∙ h))
