-- Classes of bytes, and the test that every byte of a zone is of a class.
use Rattle.std.specs.Prelude.{ℕ, Bool, true, ◌&&◌, ◌||◌, List, [], ◌∷◌, leb}

pub data Class : Type 0 where
  digit : Class
  letter : Class
  alnum : Class
  blank : Class
  permitted : Class
  flag : Class

abbrev pub between : ℕ → ℕ → ℕ → Bool
between lo hi b = leb lo b && leb b hi

-- digits 0 to 9; letters A to Z; A to Z or 0 to 9; the blank, 20; permitted bytes, 20 to 7E; 0, 1 or blank
abbrev pub in_class : Class → ℕ → Bool
in_class digit b = between 48 57 b
in_class letter b = between 65 90 b
in_class alnum b = between 48 57 b || between 65 90 b
in_class blank b = between 32 32 b
in_class permitted b = between 32 126 b
in_class flag b = between 48 49 b || between 32 32 b

unfoldable pub every : (ℕ → Bool) → List ℕ → Bool
every p [] = true
every p (b ∷ s) = p b && every p s

abbrev pub all : Class → List ℕ → Bool
all c s = every (in_class c) s
