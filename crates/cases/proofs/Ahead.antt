-- The walk over cases: what is done up to an argument, from what is to come.
use mathlib.Core.Path.{◌≡◌, refl, sym, ap, ◌∙◌}
use mathlib.Core.List.{List, []}
use Prim.Native.Nat.{ℕ, suc, ◌+◌}
use native.Mathlib.Omega.{arith}
use denote.Ref.{Bor}
use Rattle.std.specs.Prelude.{Result, Ok, String, max}
use lib.ListN.{length}
use mathlib.Core.Bool.{Bool, false}
use Rattle.std.specs.Bool.{◌==◌}
use Rattle.std.specs.List.{FoldsTo}
use Rattle.cases.specs.Arguments.{argument_of}
use Rattle.cases.specs.Cases.{cases_from, Worked}
use Rattle.cases.specs.Answers.{Each}

module _ {Z F X E : Type 0} (args : List (String Z)) (words : ℕ) (Step : F → Bor (List ℕ) → Bor (List ℕ) → X → Result (Unit {0}) E → F → Type 0) where
  -- The work was done on so many cases, those before an argument. What is done on the next ones is done on all.
  pub record Ahead (done k : ℕ) (work now : F) : Type 0 where
    pub all : (m : ℕ) (last : F) → FoldsTo (Worked Step) now (cases_from args words k m) last → FoldsTo (Worked Step) work (cases_from args words 1 (done + m)) last

  pub ahead_next : {done k : ℕ} {work p q : F} → Ahead done k work p → (path word : Bor (List ℕ)) (file : X)
      → path.now ≡ argument_of args k → word.now ≡ argument_of args (k + 1) → (argument_of args k ≡ [] → ⊥) → Step p path word file (Ok tt) q
      → Ahead (done + 1) (k + words) work q
  unfolding cases_from
  ahead_next {done} {q = q} a path word file x y n d = record {
    all = λ m last h.
        let e : done + 1 + m ≡ done + suc m = omega arith in
        rw e (a.all (suc m) last (q, record { path = path; word = word; file = file; shows = (x, y); named = n; did = d }, h));
  }

-- the answer, of one argument a case or more
pub each_of : {Z F X E : Type 0} {args : List (String Z)} {words step done k : ℕ} {Step : F → Bor (List ℕ) → Bor (List ℕ) → X → Result (Unit {0}) E → F → Type 0} {work now : F}
    → Ahead args step Step done k work now → step ≡ max words 1 → (argument_of args 1 ≡ [] → done ≡ 0) → Each args words Step work (Ok done)
unfolding cases_from
each_of {args = args} {step = step} {done} {Step = Step} {work} {now} a s e = record {
  worked = record { last = now; steps = rw (sym s) (let z : done ≡ done + 0 = omega arith in rw z (a.all 0 now refl)) };
  answer = λ n. ap Ok (e n);
}

-- a path that is not empty
pub has_path : {path named : List ℕ} {b : Bool} → b ≡ (length path == 0) → b ≡ false → path ≡ named → named ≡ [] → ⊥
has_path {path} t f p e = grind arith

-- an argument that names a case rules out that the first one names none
pub has_first : {Z A : Type 0} (args : List (String Z)) {k done : ℕ} → (argument_of args k ≡ [] → ⊥)
    → (argument_of args 1 ≡ [] → (k ≡ 1) × (done ≡ 0)) → argument_of args 1 ≡ [] → A
has_first args h n e = absurd (h (ap (argument_of args) (n e).0 ∙ e))
