-- A record as values. Text zones are bytes, amounts whole numbers, dates numbers YYYYMMDD.
use Rattle.std.specs.Prelude.{Bool, true, false, ◌&&◌, List, ℕ, eqb, ℤ, pos, negsuc}
use Rattle.zones.specs.Copy.{same_bytes}
use Rattle.grammar.specs.declared.Key.{Key}

-- what a 04 says beside its key
pub record Posting : Type 0 where
  pub internal : List ℕ
  pub code : List ℕ
  pub booked : ℕ
  pub reject : List ℕ
  pub value : ℕ
  pub label : List ℕ
  pub entry : ℕ
  pub exempt : ℕ
  pub unavailable : ℕ
  pub amount : ℤ
  pub reference : List ℕ

-- 01, 04, 05 and 07. A 05 is what it repeats of its 04, and its text: qualifier and information.
pub data Rec : Type 0 where
  opening : (key : Key) (date : ℕ) (balance : ℤ) → Rec
  movement : (key : Key) (posting : Posting) → Rec
  complement : (repeated text : List ℕ) → Rec
  closing : (key : Key) (date : ℕ) (balance : ℤ) → Rec

abbrev pub is_opening : Rec → Bool
is_opening (opening k d b) = true
is_opening (movement k p) = false
is_opening (complement e t) = false
is_opening (closing k d b) = false

abbrev pub is_movement : Rec → Bool
is_movement (opening k d b) = false
is_movement (movement k p) = true
is_movement (complement e t) = false
is_movement (closing k d b) = false

abbrev pub is_complement : Rec → Bool
is_complement (opening k d b) = false
is_complement (movement k p) = false
is_complement (complement e t) = true
is_complement (closing k d b) = false

abbrev pub is_closing : Rec → Bool
is_closing (opening k d b) = false
is_closing (movement k p) = false
is_closing (complement e t) = false
is_closing (closing k d b) = true

-- bank, branch, currency, decimals, account
unfoldable pub same_key : Key → Key → Bool
same_key a b =
    same_bytes a.bank b.bank
    && (same_bytes a.branch b.branch
    && (same_bytes a.currency b.currency && (eqb a.decimals b.decimals && same_bytes a.account b.account)))

abbrev pub same_amount : ℤ → ℤ → Bool
same_amount (pos a) (pos b) = eqb a b
same_amount (pos a) (negsuc b) = false
same_amount (negsuc a) (pos b) = false
same_amount (negsuc a) (negsuc b) = eqb a b

-- What differs between editions of the format: what a 05 repeats of its 04, which text is an MMO, and the most records of a statement and of a file.
pub record Edition : Type 0 where
  pub repeats : Key → Posting → List ℕ
  pub is_mmo : List ℕ → Bool
  pub most_in_statement : ℕ
  pub most_in_file : ℕ
