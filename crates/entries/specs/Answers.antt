-- The contract of each public function: its one answer, and the one final content of what is lent.
use Rattle.std.specs.Prelude.{◌≡◌, List, ℕ, Option, Result}
use Rattle.entries.specs.Entries.{entry_put, entry_in, entry_of, used_entry, row_put, body_at}
use Rattle.entries.specs.declared.Entry.{Entry}

-- put_entry
pub record PutEntry (first n : ℕ) (o c dst dst' : List ℕ) : Type 0 where
  pub content : dst' ≡ entry_put first n o c dst

-- entry_at
pub record EntryAt (j : List ℕ) (e : ℕ) (r : Result Entry Entry) : Type 0 where
  pub answer : r ≡ entry_of (entry_in j e)

-- used_at
pub record UsedAt (j : List ℕ) (e : ℕ) (r : Option Entry) : Type 0 where
  pub answer : r ≡ used_entry (entry_in j e)

-- put_row
pub record PutRow (j : List ℕ) (e : ℕ) (dst dst' : List ℕ) : Type 0 where
  pub content : dst' ≡ row_put j e dst

-- body_at
pub record BodyAt (j : List ℕ) (e : ℕ) (r : List ℕ) : Type 0 where
  pub answer : r ≡ body_at j e
