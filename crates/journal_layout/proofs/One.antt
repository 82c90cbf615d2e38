-- No second answer meets a contract, and no second final content.
use mathlib.Core.Path.{◌≡◌, sym, ◌∙◌}
use mathlib.Core.Bool.{Bool}
use mathlib.Core.List.{List}
use Prim.Native.Nat.{ℕ}
use lib.IntN.{ℤ}
use Rattle.framing.specs.declared.Form.{Form}
use Rattle.readers.specs.declared.Place.{Place}
use Rattle.journal_layout.specs.declared.Free.{Free}
use Rattle.journal_layout.specs.declared.Judgement.{Judgement}
use Rattle.std.specs.Prelude.{Result}
use Rattle.framing.specs.declared.refusals.Refusal.{Refusal}
use Rattle.journal_layout.specs.declared.Usage.{Usage}
use Rattle.journal_layout.specs.Answers.{Later, FollowsOn, Judged, Sound, FirstFree, UsedOf, Opens, EntryPlace, ListedPlace, EntryBody}

pub one_later : {last : Judgement} {f : Form} {h s : List ℕ} {r q : Judgement} → Later last f h s r → Later last f h s q → r ≡ q
one_later g h = g.answer ∙ sym h.answer

pub one_follows : {j : Judgement} {d : ℕ} {b : ℤ} {r q : Bool} → FollowsOn j d b r → FollowsOn j d b q → r ≡ q
one_follows g h = g.answer ∙ sym h.answer

pub one_judged : {j : List ℕ} {n : ℕ} {f : Form} {s : List ℕ} {r q : Judgement} → Judged j n f s r → Judged j n f s q → r ≡ q
one_judged g h = g.answer ∙ sym h.answer

pub one_sound : {j : List ℕ} {r q : Bool} → Sound j r → Sound j q → r ≡ q
one_sound g h = g.answer ∙ sym h.answer

pub one_first_free : {j : List ℕ} {r q : Free} → FirstFree j r → FirstFree j q → r ≡ q
one_first_free g h = g.answer ∙ sym h.answer

pub one_used : {j : List ℕ} {r q : Result Usage Refusal} → UsedOf j r → UsedOf j q → r ≡ q
one_used g h = g.answer ∙ sym h.answer

pub one_open : {j : List ℕ} {r q : Result Unit Refusal} {x y : List ℕ} → Opens j r x → Opens j q y → (r ≡ q) × (x ≡ y)
one_open g h = (g.answer ∙ sym h.answer, g.content ∙ sym h.content)

pub one_entry_place : {j : List ℕ} {e : ℕ} {r q : Result Place Refusal} → EntryPlace j e r → EntryPlace j e q → r ≡ q
one_entry_place g h = g.answer ∙ sym h.answer

pub one_listed_place : {j : List ℕ} {e : ℕ} {r q : Result Place Refusal} → ListedPlace j e r → ListedPlace j e q → r ≡ q
one_listed_place g h = g.answer ∙ sym h.answer

pub one_entry : {j : List ℕ} {e : ℕ} {r q : List ℕ} → EntryBody j e r → EntryBody j e q → r ≡ q
one_entry g h = g.answer ∙ sym h.answer
