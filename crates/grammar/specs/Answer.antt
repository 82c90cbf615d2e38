-- What a check answers, and the rule of refusal: which number, and which record.
use Rattle.std.specs.Prelude.{◌≡◌, Bool, true, false, ◌&&◌, ◌||◌, List, [], ◌∷◌, ℕ, ◌+◌, ◌<◌, eqb}
use Rattle.zones.specs.Choice.{pick}

-- the numbers of statements, movements and complements
pub record Counts : Type 0 where
  pub statements : ℕ
  pub movements : ℕ
  pub complements : ℕ

-- accepted with these counts, or refused with a number and a record
pub data Answer : Type 0 where
  accepted : Counts → Answer
  refused : (number at : ℕ) → Answer

-- a number of the list of refusals, and whether it applies
pub record Rule : Type 0 where
  pub number : ℕ
  pub applies : Bool

abbrev pub rule : ℕ → Bool → Rule
rule k t = record { number = k; applies = t }

-- the first number that applies, 0 where none does
abbrev pub first_of : List Rule → ℕ
first_of [] = 0
first_of (x ∷ xs) = pick x.applies x.number (first_of xs)

-- number k is among those that apply
abbrev pub is_ruled : ℕ → List Rule → Bool
is_ruled k [] = false
is_ruled k (x ∷ xs) = (x.applies && eqb x.number k) || is_ruled k xs

-- The first record to which any number applies, and there the lowest. Records count from 0 here.
pub record FirstAt (applies : (k i : ℕ) → Bool) (k i : ℕ) : Type 0 where
  pub here : applies k i ≡ true
  pub lowest : (j : ℕ) → j < k → applies j i ≡ false
  pub earlier : (h : ℕ) → h < i → (j : ℕ) → applies j h ≡ false

-- no number applies to any record
pub record NoneAt (applies : (k i : ℕ) → Bool) : Type 0 where
  pub none : (i j : ℕ) → applies j i ≡ false

-- What the answer a is: the first number that applies, with its record counted from 1; else 14, with the last record's number, where the file ends
-- inside a statement; else the counts.
pub data Verdict (applies : (k i : ℕ) → Bool) (inside : Bool) (records : ℕ) (counts : Counts) (a : Answer) : Type 0 where
  first : (k i : ℕ) → FirstAt applies k i → a ≡ refused k (i + 1) → Verdict applies inside records counts a
  cut : NoneAt applies → inside ≡ true → a ≡ refused 14 records → Verdict applies inside records counts a
  whole : NoneAt applies → inside ≡ false → a ≡ accepted counts → Verdict applies inside records counts a
