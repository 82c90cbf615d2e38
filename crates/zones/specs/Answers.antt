-- The contract of each public function: its one answer, and the one final content of what is lent.
use Rattle.std.specs.Prelude.{◌≡◌, Bool, List, ℕ, length}
use Rattle.zones.specs.Class.{Class, all}
use Rattle.zones.specs.Copy.{same_bytes, copied}
use Rattle.zones.specs.Number.{number_of, digits_of}

-- digits, letters, alnums, blanks, permitted, flags: each of its class
pub record Tested (c : Class) (s : List ℕ) (r : Bool) : Type 0 where
  pub answer : r ≡ all c s

-- same
pub record Same (a b : List ℕ) (r : Bool) : Type 0 where
  pub answer : r ≡ same_bytes a b

-- put
pub record Put (src dst dst' : List ℕ) : Type 0 where
  pub content : dst' ≡ copied src dst

-- number
pub record Number (s : List ℕ) (r : ℕ) : Type 0 where
  pub answer : r ≡ number_of s

-- put_number
pub record PutNumber (n : ℕ) (out out' : List ℕ) : Type 0 where
  pub content : out' ≡ digits_of (length out) n
