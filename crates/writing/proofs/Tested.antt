-- What the tests of the code's parts say of values, and of a complement's text.
use mathlib.Core.Path.{◌≡◌, ap}
use mathlib.Core.Bool.{Bool, false, ◌&&◌, ◌||◌}
use mathlib.Core.List.{List, [], ◌∷◌}
use Prim.Native.Nat.{ℕ, ◌^◌, ◌<◌}
use native.Mathlib.Omega.{arith}
use lib.Dec.{eqb, ltb}
use lib.ListN.{length, take, length-take}
use borrow.Author.Tests.{eq-eqb}
use Rattle.zones.specs.Class.{digit, letter, alnum, blank, permitted, flag, in_class, all}
use Rattle.zones.specs.Text.{bytes}
use Rattle.zones.proofs.Bools.{conj}
use Rattle.zones.proofs.Copies.{other_length}
use Rattle.zones.proofs.Pasted.{Wide}
use Rattle.dates.specs.Days.{is_day}
use Rattle.amounts.specs.Amounts.{has_amount}
use Rattle.grammar.specs.declared.Key.{Key}
use Rattle.records.specs.July.{is_mmo}
use Rattle.fields.specs.declared.Movement.{Movement}
use Rattle.writing.specs.Written.{posting_of, key_holds, posting_holds}

-- an array has its width
abbrev pub KeyWide : Key → Type 0
KeyWide k = Wide (5 ∷ 5 ∷ 3 ∷ 11 ∷ []) (k.bank ∷ k.branch ∷ k.currency ∷ k.account ∷ [])

abbrev pub RowWide : Movement → Type 0
RowWide m = Wide (4 ∷ 2 ∷ 2 ∷ 31 ∷ 16 ∷ []) (m.internal ∷ m.code ∷ m.reject ∷ m.label ∷ m.reference ∷ [])

sized : (v : List ℕ) {w : ℕ} {r x : Bool} → length v ≡ w → r ≡ x → r ≡ (eqb (length v) w && x)
sized v {w} l e = rw (eq-eqb (length v) w l) e

pub key_tested : (k : Key) {a b c d e : Bool} → KeyWide k
    → a ≡ all digit k.bank → b ≡ all digit k.branch → c ≡ all letter k.currency → d ≡ in_class digit k.decimals → e ≡ all alnum k.account
    → (a && (b && (c && (d && e)))) ≡ key_holds k
unfolding key_holds
key_tested k w p q r s t =
    conj (sized k.bank w.0 p) (conj (sized k.branch w.1.0 q) (conj (sized k.currency w.1.1.0 r) (conj s (sized k.account w.1.1.1.0 t))))

pub posting_tested : (m : Movement) {a b c d e f g h i j : Bool} → RowWide m
    → a ≡ all permitted m.internal → b ≡ all alnum m.code → c ≡ is_day m.booked → d ≡ (all digit m.reject || all blank m.reject) → e ≡ is_day m.value
    → f ≡ all permitted m.label → g ≡ in_class flag m.exempt → h ≡ in_class flag m.unavailable → i ≡ has_amount m.amount → j ≡ all permitted m.reference
    → (a && (b && (c && (d && (e && (f && (ltb m.entry (10 ^ 7) && (g && (h && (i && j)))))))))) ≡ posting_holds (posting_of m)
unfolding posting_holds
posting_tested m w p q r s t u v x y z =
    conj (sized m.internal w.0 p)
    (conj (sized m.code w.1.0 q)
    (conj r
    (conj (sized m.reject w.1.1.0 s)
    (conj t
    (conj (sized m.label w.1.1.1.0 u)
    (ap (◌&&◌ (ltb m.entry (10 ^ 7))) (conj v (conj x (conj y (sized m.reference w.1.1.1.1.0 z))))))))))

-- at the code's returns
module _ (t : List ℕ) where
  pub no_mmo : length t < 3 → false ≡ is_mmo t
  unfolding is_mmo
  no_mmo h = other_length (bytes "MMO") (take 3 t) (λ e. omega (arith, e, length-take 3 t))
