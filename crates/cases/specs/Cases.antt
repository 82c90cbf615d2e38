-- The cases that arguments name, and the work on them.
use Rattle.std.specs.Prelude.{◌≡◌, ◌≢◌, ℕ, zero, suc, ◌+◌, List, [], ◌∷◌, Result, Ok, String}
use Rattle.std.specs.List.{FoldsTo}
use denote.Ref.{Bor}
use Rattle.cases.specs.Arguments.{argument_of}

-- so many cases from an argument on, each of as many arguments: its path and the argument after it
unfoldable pub cases_from : {Z : Type 0} → List (String Z) → (words k count : ℕ) → List (List ℕ × List ℕ)
cases_from args words k zero = []
cases_from args words k (suc n) = (argument_of args k, argument_of args (k + 1)) ∷ cases_from args words (k + words) n

module _ {F X E : Type 0} (Step : F → Bor (List ℕ) → Bor (List ℕ) → X → Result (Unit {0}) E → F → Type 0) where
  -- the work was done on a case that has a path, with some file, and went well
  pub record Worked (p : F) (c : List ℕ × List ℕ) (q : F) : Type 0 where
    pub path : Bor (List ℕ)
    pub word : Bor (List ℕ)
    pub file : X
    pub shows : (path.now ≡ c.0) × (word.now ≡ c.1)
    pub named : c.0 ≢ []
    pub did : Step p path word file (Ok tt) q

  -- the work was done on so many cases, one after the other
  pub record WorkedOn (cases : List (List ℕ × List ℕ)) (work : F) : Type 0 where
    pub last : F
    pub steps : FoldsTo Worked work cases last
