-- The contract of each public function: its one answer, and the one final content of what is lent.
use Rattle.std.specs.Prelude.{◌≡◌, Bool, List, ℕ}
use Rattle.framing.specs.declared.Form.{Form}
use Rattle.bodies.specs.Bodies.{single, same_records, body_put, closing_in}

-- is_single
pub record IsSingle (b : List ℕ) (r : Bool) : Type 0 where
  pub answer : r ≡ single b

-- same_records
pub record SameRecords (f : Form) (a : List ℕ) (g : Form) (b : List ℕ) (r : Bool) : Type 0 where
  pub answer : r ≡ same_records f a g b

-- closing_of
pub record ClosingOf (f : Form) (b r : List ℕ) : Type 0 where
  pub answer : r ≡ closing_in f b

-- put_body
pub record PutBody (f : Form) (b dst dst' : List ℕ) : Type 0 where
  pub content : dst' ≡ body_put f b dst
