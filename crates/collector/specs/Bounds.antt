-- How large the numbers of an answer can be.
use Rattle.std.specs.Prelude.{Result, MatchResult, ℕ, ◌≡◌, ◌*◌, ◌<◌, ◌≤◌}
use Rattle.dates.specs.Ordinals.{last_day}
use Rattle.framing.specs.declared.Frame.{Frame}
use Rattle.framing.specs.declared.refusals.Refusal.{Refusal}
use Rattle.framing.specs.Refusals.{reason_number}
use Rattle.records.specs.July.{record_size, most_in_file, most_in_statement}
use Rattle.statements.specs.declared.Counts.{Counts}
use Rattle.readers.specs.declared.Place.{Place}
use Rattle.entries.specs.Entries.{most_entries, line_at}
use Rattle.journal_layout.specs.declared.Usage.{Usage}
use Rattle.journal_layout.specs.Layout.{most_lines}
use Rattle.journal.specs.declared.Delivery.{Delivery}
use Rattle.journal.specs.declared.Rejection.{Rejection}

-- the last number of the list of refusals
abbrev pub last_refusal : ℕ
last_refusal = 25

-- a number of that list, and a record that a file can have, 0 for none
pub record RefusalBounds (number at : ℕ) : Type 0 where
  pub some : 1 ≤ number
  pub listed : number ≤ last_refusal
  pub near : at ≤ most_in_file

pub record Counted (statements movements complements : ℕ) : Type 0 where
  pub few_statements : statements ≤ most_in_file
  pub few_movements : movements ≤ most_in_file
  pub few_complements : complements ≤ most_in_file

pub record Told (stored held : ℕ) : Type 0 where
  pub few_stored : stored ≤ most_entries
  pub few_held : held ≤ most_in_file

-- the bytes of a body: whole records from the first byte of a line on
pub record Body (first len : ℕ) : Type 0 where
  pub line : ℕ
  pub records : ℕ
  pub begins : first ≡ line_at line
  pub runs : len ≡ record_size * records
  pub low : line < most_lines
  pub few : records ≤ most_in_statement

-- the same of any bytes, sound or not
pub record Lines (first len : ℕ) : Type 0 where
  pub line : ℕ
  pub records : ℕ
  pub begins : first ≡ line_at line
  pub runs : len ≡ record_size * records
  pub low : line ≤ most_lines
  pub few : records ≤ most_lines

pub record Filled (entries used lines : ℕ) : Type 0 where
  pub few_entries : entries ≤ most_entries
  pub room : used ≤ lines
  pub few_lines : lines ≤ most_lines

-- of an answer the bounds of its value, or of its refusal
abbrev pub InList : Refusal → Type 0
InList e = RefusalBounds (reason_number e.reason) e.«record»

abbrev pub Bounded : {A : Type 0} → (A → Type 0) → Result A Refusal → Type 0
Bounded P r = MatchResult r P InList

abbrev pub CheckBounds : Result Counts Refusal → Type 0
CheckBounds r = Bounded (λ c. Counted c.statements c.movements c.complements) r

abbrev pub OpeningBounds : Result Unit Refusal → Type 0
OpeningBounds r = Bounded (λ u. Unit) r

abbrev pub DeliveryBounds : Result Delivery Rejection → Type 0
DeliveryBounds r = MatchResult r (λ d. Told d.stored d.held) (λ e. InList e.refusal)

abbrev pub EntryBounds : Result Place Refusal → Type 0
EntryBounds r = Bounded (λ p. Body p.first p.len) r

abbrev pub ListedBounds : Result Place Refusal → Type 0
ListedBounds r = Bounded (λ p. Lines p.first p.len) r

abbrev pub UsageBounds : Result Usage Refusal → Type 0
UsageBounds r = Bounded (λ u. Filled u.entries u.used u.lines) r

abbrev pub LengthBounds : Result Frame Refusal → Type 0
LengthBounds r = Bounded (λ c. c.count ≤ most_in_file) r

abbrev pub BeginningBounds : Result ℕ Refusal → Type 0
BeginningBounds r = Bounded (λ d. d ≤ last_day) r
