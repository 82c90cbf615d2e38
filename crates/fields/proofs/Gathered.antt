-- A key and a row from their fields.
use mathlib.Core.Path.{◌≡◌, refl, ap₂}
use mathlib.Core.List.{List, [], ◌∷◌}
use Prim.Native.Nat.{ℕ, zero, suc, ◌<◌}
use native.Mathlib.Omega.{arith}
use lib.ListN.{length, get_or, replicate}
use lib.IntN.{ℤ, pos}
use Rattle.std.specs.Array.{AllOfLen}
use borrow.Author.Tests.{eq-eqb, ne_eqb}
use Rattle.zones.specs.Number.{value_of}
use Rattle.amounts.specs.Amounts.{amount_of}
use Rattle.dates.specs.Days.{date_of}
use Rattle.layouts.specs.Zone.{part, day_in, value_in}
use Rattle.grammar.specs.declared.Key.{Key}
use Rattle.records.proofs.Compared.{byte_at}
use Rattle.records.specs.July.{record_size}
use Rattle.fields.specs.declared.Movement.{Movement}
use Rattle.fields.specs.declared.Valued.{Valued}
use Rattle.fields.specs.Rows.{no_key, no_row, no_valued, key_at_of, row_at_of, valued_at_of}

pub no_key_lem : (b : List ℕ) → (length b ≡ record_size → ⊥) → no_key ≡ key_at_of b
unfolding key_at_of
no_key_lem b h = rw (ne_eqb (length b) record_size h)

pub no_row_lem : (b : List ℕ) (n : ℕ) → (length b ≡ record_size → ⊥) → no_row ≡ row_at_of b n
unfolding row_at_of
no_row_lem b n h = rw (ne_eqb (length b) record_size h)

pub no_valued_lem : (b : List ℕ) → (length b ≡ record_size → ⊥) → no_valued ≡ valued_at_of b
unfolding valued_at_of
no_valued_lem b h = rw (ne_eqb (length b) record_size h)

-- what the library makes of a row by default
zeros : (n : ℕ) (xs : List ℕ) → length xs ≡ n → ((i d : ℕ) → i < n → get_or xs i d ≡ 0) → xs ≡ replicate n 0
zeros zero [] l h = refl
zeros zero (x ∷ xs) l h = absurd (omega arith)
zeros (suc n) [] l h = absurd (omega arith)
zeros (suc n) (x ∷ xs) l h = ap₂ ◌∷◌ (h 0 0 (omega arith)) (zeros n xs (omega arith) (λ i d k. h (suc i) d (omega arith)))

zero_bytes : {n : ℕ} {xs : List ℕ} → AllOfLen (λ x. x ≡ 0) xs n → xs ≡ replicate n 0
zero_bytes {n} {xs} a = zeros n xs a.long a.at

pub default_key : {k : Key} → AllOfLen (λ x. x ≡ 0) k.bank 5 → AllOfLen (λ x. x ≡ 0) k.branch 5 → AllOfLen (λ x. x ≡ 0) k.currency 3 → k.decimals ≡ 0
    → AllOfLen (λ x. x ≡ 0) k.account 11 → k ≡ no_key
default_key {k} ba br cu de ac = rw (zero_bytes ba, zero_bytes br, zero_bytes cu, de, zero_bytes ac)

pub default_row : {m : Movement} → AllOfLen (λ x. x ≡ 0) m.internal 4 → AllOfLen (λ x. x ≡ 0) m.code 2 → m.booked ≡ 0 → AllOfLen (λ x. x ≡ 0) m.reject 2 → m.value ≡ 0
    → AllOfLen (λ x. x ≡ 0) m.label 31 → m.entry ≡ 0 → m.exempt ≡ 0 → m.unavailable ≡ 0 → m.amount ≡ pos 0 → AllOfLen (λ x. x ≡ 0) m.reference 16 → m.complements ≡ 0 → m ≡ no_row
default_row {m} i co bo re va la en ex un am rf cs = rw (zero_bytes i, zero_bytes co, bo, zero_bytes re, va, zero_bytes la, en, ex, un, am, zero_bytes rf, cs)

pub default_valued : {v : Valued} → v.value ≡ 0 → v.amount ≡ pos 0 → v ≡ no_valued
default_valued {v} p q = rw (p, q)

module _ (b : List ℕ) (l : length b ≡ record_size) where
  pub key_is : {ba br cu ac : List ℕ} → ba ≡ part 3 7 b → br ≡ part 12 16 b → cu ≡ part 17 19 b → ac ≡ part 22 32 b
      → ◌≡◌ {A = Key} (record { bank = ba; branch = br; currency = cu; decimals = get_or b 19 0; account = ac }) (key_at_of b)
  unfolding key_at_of
  key_is p q r s = rw (p, q, r, s, eq-eqb (length b) record_size l, byte_at 19 b)

  pub row_is : (n : ℕ) {i co re la rf : List ℕ} {bo va en : ℕ} {am : ℤ}
      → i ≡ part 8 11 b → co ≡ part 33 34 b → re ≡ part 41 42 b → la ≡ part 49 79 b → rf ≡ part 105 120 b
      → bo ≡ day_in (date_of (part 35 40 b)) → va ≡ day_in (date_of (part 43 48 b)) → en ≡ value_of (part 82 88 b) → am ≡ value_in (amount_of (part 91 104 b))
      → ◌≡◌ {A = Movement}
      (record { internal = i; code = co; booked = bo; reject = re; value = va; label = la; entry = en; exempt = get_or b 88 0; unavailable = get_or b 89 0; amount = am; reference = rf; complements = n })
      (row_at_of b n)
  unfolding row_at_of
  row_is n p q r s t u v w x = rw (p, q, r, s, t, u, v, w, x, eq-eqb (length b) record_size l, byte_at 88 b, byte_at 89 b)

  pub valued_is : {va : ℕ} {am : ℤ} → va ≡ day_in (date_of (part 43 48 b)) → am ≡ value_in (amount_of (part 91 104 b))
      → ◌≡◌ {A = Valued} (record { value = va; amount = am }) (valued_at_of b)
  unfolding valued_at_of
  valued_is p q = rw (p, q, eq-eqb (length b) record_size l)
