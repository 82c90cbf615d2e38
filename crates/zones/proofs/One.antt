-- No second answer meets a contract.
use mathlib.Core.Path.{◌≡◌, sym, ◌∙◌}
use mathlib.Core.Bool.{Bool}
use mathlib.Core.List.{List}
use Prim.Native.Nat.{ℕ}
use Rattle.zones.specs.Class.{Class}
use Rattle.zones.specs.Answers.{Tested, Same, Put, Number, PutNumber}

pub one_tested : {c : Class} {s : List ℕ} {r q : Bool} → Tested c s r → Tested c s q → r ≡ q
one_tested g h = g.answer ∙ sym h.answer

pub one_same : {a b : List ℕ} {r q : Bool} → Same a b r → Same a b q → r ≡ q
one_same g h = g.answer ∙ sym h.answer

pub one_put : {src dst x y : List ℕ} → Put src dst x → Put src dst y → x ≡ y
one_put g h = g.content ∙ sym h.content

pub one_number : {s : List ℕ} {r q : ℕ} → Number s r → Number s q → r ≡ q
one_number g h = g.answer ∙ sym h.answer

pub one_put_number : {n : ℕ} {out x y : List ℕ} → PutNumber n out x → PutNumber n out y → x ≡ y
one_put_number g h = g.content ∙ sym h.content
