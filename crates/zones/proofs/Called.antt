-- What a call answered or left, where the width is known: the laws that callers cite.
use mathlib.Core.Path.{◌≡◌, ap, ◌∙◌}
use mathlib.Core.Bool.{true}
use mathlib.Core.List.{List}
use Prim.Native.Nat.{ℕ, ◌^◌, ◌<◌, ◌≤◌}
use lib.ListN.{length}
use borrow.Author.Tests.{le-leb}
use Rattle.zones.specs.Class.{digit, all}
use Rattle.zones.specs.Number.{value_of, most_digits, number_of, digits_of}
use Rattle.zones.specs.Answers.{Put, Number, PutNumber}
use Rattle.zones.proofs.Copies.{copied_whole}
use Rattle.zones.proofs.Decimal.{value_below}

pub put_whole : {src dst dst' : List ℕ} → Put src dst dst' → length src ≡ length dst → dst' ≡ src
put_whole {src} {dst} p e = p.content ∙ copied_whole src dst e

pub put_digits : {n : ℕ} {out out' : List ℕ} → PutNumber n out out' → (w : ℕ) → length out ≡ w → out' ≡ digits_of w n
put_digits {n} p w e = p.content ∙ ap (λ (k : ℕ). digits_of k n) e

pub number_value : {s : List ℕ} {n : ℕ} → Number s n → length s ≤ most_digits → n ≡ value_of s
unfolding number_of
number_value {s} p h = p.answer ∙ rw (le-leb (length s) most_digits h)

pub number_below : {s : List ℕ} {n : ℕ} → Number s n → (w : ℕ) → length s ≡ w → w ≤ most_digits → all digit s ≡ true → n < 10 ^ w
number_below {s} p w e h d = rw (number_value p (rw e h), ← e) (value_below s d)
