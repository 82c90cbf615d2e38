-- The bytes of a journal: the layout of a list of statements. The picture stands in `entries/specs/Entries.antt`.
use Rattle.std.specs.Prelude.{Result, Ok, Err, ◌≡◌, Bool, ◌&&◌, ◌||◌, List, [], ◌∷◌, ◌++◌, map, ℕ, ◌+◌, ◌-◌, ◌*◌, ◌%◌, ◌≤◌, eqb, leb, ltb, length, get_or, replicate}
use Rattle.zones.specs.Choice.{pick}
use Rattle.zones.specs.Number.{digits_of}
use Rattle.zones.specs.Pieces.{flat}
use Rattle.framing.specs.Files.{All}
use Rattle.grammar.specs.declared.Key.{Key}
use Rattle.grammar.specs.Statements.{Statement}
use Rattle.grammar.specs.Files.{Writable}
use Rattle.grammar.specs.Parts.{size_of, records_before, no_statement}
use Rattle.records.specs.July.{record_size, july}
use Rattle.readers.specs.declared.Place.{Place}
use Rattle.framing.specs.Refusals.{refusal_by}
use Rattle.framing.specs.declared.refusals.Reason.TheVariants.{NoSuchEntry}
use Rattle.framing.specs.declared.refusals.Refusal.{Refusal}
use Rattle.bodies.specs.Bodies.{body_of, opening_text, closing_text}
use Rattle.entries.specs.Entries.{most_entries, entry_size, table_size, line_at, key_text, entry_text}
use Rattle.journal_layout.specs.Chains.{Chained, of_account, Distinct}

-- the most body lines
abbrev pub most_lines : ℕ
most_lines = 100000

-- a length that a journal has
unfoldable pub is_length : ℕ → Bool
is_length n = (leb table_size n && leb n (line_at most_lines)) && eqb (n % record_size) 0

-- the lines that some statements take
unfoldable pub lines_of : List Statement → ℕ
lines_of [] = 0
lines_of (s ∷ ss) = size_of s + lines_of ss

-- the entry of a statement whose body begins at a line
unfoldable pub entry_of : ℕ → Statement → List ℕ
entry_of k s = entry_text k (size_of s) (opening_text s) (closing_text s)

unfoldable pub entries_of : ℕ → List Statement → List ℕ
entries_of k [] = []
entries_of k (s ∷ ss) = entry_of k s ++ entries_of (k + size_of s) ss

unfoldable pub bodies_of : List Statement → List ℕ
bodies_of ss = flat (map body_of ss)

-- Entries fill from the first; bodies stand one after another from line 0. Unused entries and lines are blank.
unfoldable pub journal_of : (n : ℕ) → List Statement → List ℕ
journal_of n ss =
    (entries_of 0 ss ++ replicate (entry_size * (most_entries - length ss)) 32)
    ++ (bodies_of ss ++ replicate (record_size * (n - lines_of ss)) 32)

-- what a journal of n lines can hold: each statement accepted alone, no two with identical records, each account's in an unbroken chain
pub record Keepable (n : ℕ) (ss : List Statement) : Type 0 where
  pub few : length ss ≤ most_entries
  pub room : lines_of ss ≤ n
  pub alone : All (Writable july) ss
  pub distinct : Distinct ss
  pub chained : (k : Key) → Chained (of_account k ss)

-- A SOUND JOURNAL: the bytes j are the layout of the statements ss
pub record Journal (j : List ℕ) (ss : List Statement) : Type 0 where
  pub lines : ℕ
  pub most : lines ≤ most_lines
  pub layout : j ≡ journal_of lines ss
  pub kept : Keepable lines ss

-- the place of entry e's body, from 1, among held statements
abbrev pub place_among : List Statement → ℕ → Result Place Refusal
place_among ss e =
    pick (eqb e 0 || ltb (length ss) e) (Err (refusal_by NoSuchEntry 0))
    (Ok (record { first = line_at (records_before (e - 1) ss); len = record_size * size_of (get_or ss (e - 1) no_statement) }))

-- the row of a statement: its account key as in its 01, its old date and its new one
unfoldable pub row_for : Statement → List ℕ
row_for s = flat (key_text (opening_text s) ∷ digits_of 8 s.old_date ∷ digits_of 8 s.new_date ∷ [])

-- opening: the layout of no statement, in a buffer of a right length
unfoldable pub opened_of : List ℕ → List ℕ
opened_of j = pick (is_length (length j)) (replicate (length j) 32) j
