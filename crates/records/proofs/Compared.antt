-- Two records compared.
use mathlib.Core.Path.{◌≡◌, ap, ◌∙◌}
use mathlib.Core.Bool.{Bool, false, ◌&&◌, and-false}
use mathlib.Core.List.{List}
use Prim.Native.Nat.{ℕ}
use native.Mathlib.Nat.{add-zero}
use native.Mathlib.Omega.{arith}
use lib.Dec.{eqb}
use lib.ListN.{length, take, drop, get_or}
use lib.Seq.{get_or-take, get_or-drop}
use borrow.Author.Tests.{eq-eqb, ne_eqb}
use Rattle.zones.specs.Copy.{same_bytes}
use Rattle.layouts.specs.Zone.{part}
use Rattle.grammar.specs.Record.{same_key}
use Rattle.records.specs.July.{record_size}
use Rattle.records.specs.Tests.{same_key_in, same_front_in}

pub byte_at : (n : ℕ) (b : List ℕ) → get_or (take 1 (drop n b)) 0 0 ≡ get_or b n 0
byte_at n b = get_or-take 1 (drop n b) 0 0 (omega arith) ∙ (get_or-drop n b 0 0 ∙ ap (λ k. get_or b k 0) (add-zero n))

module _ (a b : List ℕ) where
  module _ (l : length a ≡ record_size) (m : length b ≡ record_size) where
    pub same_keys : {p q r s : Bool} → p ≡ same_bytes (part 3 7 a) (part 3 7 b) → q ≡ same_bytes (part 12 16 a) (part 12 16 b)
        → r ≡ same_bytes (part 17 19 a) (part 17 19 b) → s ≡ same_bytes (part 22 32 a) (part 22 32 b)
        → (p && (q && (r && (eqb (get_or a 19 0) (get_or b 19 0) && s)))) ≡ same_key_in a b
    unfolding same_key_in same_key
    same_keys p q r s = rw (p, q, r, s, eq-eqb (length a) record_size l, eq-eqb (length b) record_size m, byte_at 19 a, byte_at 19 b)

    pub same_fronts : {p : Bool} → p ≡ same_bytes (part 3 40 a) (part 3 40 b) → p ≡ same_front_in a b
    unfolding same_front_in
    same_fronts p = rw (p, eq-eqb (length a) record_size l, eq-eqb (length b) record_size m)

  pub no_key_first : (length a ≡ record_size → ⊥) → false ≡ same_key_in a b
  unfolding same_key_in
  no_key_first h = rw (ne_eqb (length a) record_size h)

  pub no_key_second : (length b ≡ record_size → ⊥) → false ≡ same_key_in a b
  unfolding same_key_in
  no_key_second h = rw (ne_eqb (length b) record_size h, and-false (eqb (length a) record_size))

  pub no_front_first : (length a ≡ record_size → ⊥) → false ≡ same_front_in a b
  unfolding same_front_in
  no_front_first h = rw (ne_eqb (length a) record_size h)

  pub no_front_second : (length b ≡ record_size → ⊥) → false ≡ same_front_in a b
  unfolding same_front_in
  no_front_second h = rw (ne_eqb (length b) record_size h, and-false (eqb (length a) record_size))
