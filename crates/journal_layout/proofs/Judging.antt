-- The judgement of a statement by the first entries: what the loop keeps, and one law for each way out of a turn.
use mathlib.Core.Path.{◌≡◌, sym}
use mathlib.Core.Bool.{Bool, true, false, not, ◌||◌}
use mathlib.Core.List.{List}
use Prim.Native.Nat.{ℕ, suc, ◌+◌, ◌-◌, ◌<◌, ◌≤◌}
use native.Mathlib.Omega.{arith}
use mir.Syntax.{w64}
use mir.Val.{to_z, of_z}
use borrow.Author.Tests.{not-true, not-false}
use Rattle.framing.specs.Files.{plain}
use Rattle.zones.specs.Choice.{pick}
use Rattle.amounts.proofs.Whole.{back}
use Rattle.framing.specs.declared.Form.{Form}
use Rattle.records.specs.declared.Look.{Look}
use Rattle.records.specs.Looks.{look_of}
use Rattle.records.specs.Tests.{same_key_in}
use Rattle.contents.specs.Heads.{record_at_of}
use Rattle.statements.proofs.Judging.{look_small}
use Rattle.bodies.specs.Bodies.{same_records, closing_in}
use Rattle.entries.specs.Entries.{body_at}
use Rattle.journal_layout.specs.declared.Judgement.{Judgement}
use Rattle.journal_layout.specs.declared.Judgement.TheVariants.{Held, First, After}
use Rattle.journal_layout.specs.Test.{later_of, held_from, last_from, judged_by}

-- `later` at its returns
module _ (last : Judgement) (f : Form) (h s : List ℕ) {o p : List ℕ} (a : o ≡ record_at_of h 0) (b : p ≡ record_at_of s 0) {t : Bool} (e : t ≡ same_key_in o p) where
  pub other_account : not t ≡ true → last ≡ later_of last f h s
  unfolding later_of
  other_account n = sym (rw (← a, ← b, ← e, not-true t n))

  pub same_account : {c : List ℕ} {k : Look} → c ≡ closing_in f h → k ≡ look_of c → not t ≡ false
      → After k.day (to_z w64 (of_z w64 k.amount)) ≡ later_of last f h s
  unfolding later_of
  same_account {c} {k} q g n =
      let x = look_small c g in
      rw (back k.amount (omega arith)) (sym (rw (← a, ← b, ← e, not-false t n, ← q, ← g)))

module _ (j : List ℕ) (count : ℕ) (f : Form) (s : List ℕ) where
  -- what is answered from here on is the whole answer
  pub record Going (last : Judgement) (e : ℕ) : Type 0 where
    pub inside : e ≤ count
    pub rest : pick (held_from (count - e) e j f s) Held (last_from (count - e) e last j s) ≡ judged_by j count f s

  pub begins : Going First 0
  unfolding judged_by
  begins = let z : count - 0 ≡ count = omega arith in record { inside = omega arith; rest = rw z }

  module _ {last : Judgement} {e : ℕ} (g : Going last e) where
    module _ (more : e < count) {h : List ℕ} (p : h ≡ body_at j e) {t : Bool} (q : t ≡ same_records plain h f s) where
      step : pick (t || held_from (count - (e + 1)) (e + 1) j f s) Held (last_from (count - (e + 1)) (e + 1) (later_of last plain h s) j s) ≡ judged_by j count f s
      unfolding held_from last_from
      step =
          let z : count - e ≡ suc (count - (e + 1)) = omega arith in
          let y : pick (same_records plain (body_at j e) f s || held_from (count - (e + 1)) (e + 1) j f s) Held (last_from (count - (e + 1)) (e + 1) (later_of last plain (body_at j e) s) j s) ≡ judged_by j count f s
          = rw z at g.rest in
          rw (q, p) y

      pub found : t ≡ true → Held ≡ judged_by j count f s
      found y = rw y at step

      pub goes_on : {r : Judgement} → t ≡ false → r ≡ later_of last plain h s → Going r (e + 1)
      goes_on y w = record { inside = omega arith; rest = rw w (rw y at step) }

    pub ends : count ≤ e → last ≡ judged_by j count f s
    unfolding held_from last_from
    ends h =
        let i = g.inside in
        let z : count - e ≡ 0 = omega arith in
        rw z at g.rest
