-- What the planned statements say of another one: one law for each return.
use mathlib.Core.Path.{◌≡◌, sym, ◌∙◌}
use mathlib.Core.Bool.{Bool, true, false, ◌||◌}
use mathlib.Core.List.{List}
use Prim.Native.Nat.{ℕ, ◌+◌, ◌<◌, ◌≤◌}
use native.Mathlib.Numerals.{add-one}
use lib.ListN.{length, drop, get_or, drop_of_length-le}
use lib.Seq.{drop-cons}
use Rattle.zones.specs.Choice.{pick}
use Rattle.framing.specs.declared.Form.{Form}
use Rattle.bodies.specs.Bodies.{same_records}
use Rattle.journal_layout.specs.declared.Judgement.{Judgement}
use Rattle.journal_layout.specs.declared.Judgement.TheVariants.{Held}
use Rattle.journal_layout.specs.Test.{later_of, judged_by}
use Rattle.journal.specs.declared.Bounds.{Bounds}
use Rattle.journal.specs.Delivery.{is_held}
use Rattle.journal.specs.Plans.{part_of, parts_of, nowhere, held_in, last_in, judged_in, judged_all}

-- the loop: what is answered from part p on is the whole answer
module _ (after : Judgement) {whole : Judgement} (f : Form) (b : List ℕ) (xs : List Bounds) (s : List ℕ) (p : ℕ) (g : judged_in after f (parts_of (drop p xs) b) s ≡ whole) where
  pub ends_there : length xs ≤ p → after ≡ whole
  unfolding judged_in held_in last_in
  ends_there h = rw (drop_of_length-le xs {i = p} h) at g

  module _ (more : p < length xs) {h : List ℕ} (e : h ≡ part_of (get_or xs p nowhere) b) {t : Bool} (q : t ≡ same_records f h f s) where
    step : pick (t || held_in f (parts_of (drop (p + 1) xs) b) s) Held (last_in (later_of after f h s) f (parts_of (drop (p + 1) xs) b) s) ≡ whole
    unfolding judged_in held_in last_in
    step = rw (q, e, add-one p) (rw (drop-cons xs p nowhere more) at g)

    pub found : t ≡ true → Held ≡ whole
    found y = rw y at step

    pub goes_on : {r : Judgement} → t ≡ false → r ≡ later_of after f h s → judged_in r f (parts_of (drop (p + 1) xs) b) s ≡ whole
    unfolding judged_in
    goes_on y w = rw w (rw y at step)

-- `judged_all` at its returns
module _ (j : List ℕ) (held : ℕ) (f : Form) (hs : List (List ℕ)) (s : List ℕ) {last : Judgement} (p : last ≡ judged_by j held f s) {t : Bool} (q : t ≡ is_held last) where
  pub held_already : t ≡ true → Held ≡ judged_all j held f hs s
  unfolding judged_all
  held_already h = sym (rw (← p, ← q, h))

  pub planned_says : {r : Judgement} → t ≡ false → r ≡ judged_in last f hs s → r ≡ judged_all j held f hs s
  unfolding judged_all
  planned_says h e = e ∙ sym (rw (← p, ← q, h))
