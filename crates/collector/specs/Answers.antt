-- The contract of each exported function: its one number, and the one final content of a lent journal or row. Of a delivery's answer the number has all but what was expected, which two functions give apart.
use Rattle.std.specs.Prelude.{Result, Ok, Err, ◌≡◌, List, ◌++◌, ℕ, ◌-◌, ltb, ℤ, length, drop}
use Rattle.zones.specs.Choice.{pick}
use Rattle.framing.specs.declared.Form.{Form}
use Rattle.framing.specs.declared.Frame.{Frame}
use Rattle.framing.specs.declared.refusals.Refusal.{Refusal}
use Rattle.framing.specs.declared.refusals.Reason.TheVariants.{ShortOutput, UnsoundJournal}
use Rattle.framing.specs.Refusals.{refusal_by}
use Rattle.framing.specs.Frames.{frame_by}
use Rattle.framing.specs.Answers.{paper_frame}
use Rattle.grammar.specs.Files.{check_of}
use Rattle.records.specs.July.{record_size, most_in_file, coding_of}
use Rattle.statements.specs.declared.Counts.{Counts}
use Rattle.statements.specs.Answers.{checked_of, paper_check}
use Rattle.readers.specs.declared.Place.{Place}
use Rattle.readers.specs.Answers.{paper_place}
use Rattle.contents.specs.Earliest.{beginning_of}
use Rattle.contents.specs.Answers.{paper_beginning}
use Rattle.entries.specs.Entries.{row_size, entry_bytes, row_of}
use Rattle.journal_layout.specs.Layout.{is_length, opened_of}
use Rattle.journal_layout.specs.Test.{entry_place_of, listed_place_of, usage_of}
use Rattle.journal_layout.specs.Answers.{paper_opening, paper_usage}
use Rattle.journal.specs.declared.Delivery.{Delivery}
use Rattle.journal.specs.declared.Rejection.{Rejection}
use Rattle.journal.specs.Delivery.{outcome_of, content_of}
use Rattle.journal.specs.Answers.{answer_of, paper_delivery}
use Rattle.collector.specs.Packing.{packed_check, packed_opening, packed_delivery, packed_entry, packed_usage, packed_length, packed_beginning}

-- the form of a file with a line-end number
abbrev pub form : ℕ → Form
form e = record { line_end = e }

-- the answers whose paper's records are packed; of an entry it is `entry_place_of`, of what is used `usage_of`
abbrev pub check_answer : (e : ℕ) → List ℕ → Result Counts Refusal
check_answer e b = checked_of (check_of (coding_of (form e)) (form e) b)

abbrev pub open_answer : List ℕ → Result Unit Refusal
open_answer j = pick (is_length (length j)) (Ok tt) (Err (refusal_by UnsoundJournal 0))

abbrev pub deliver_answer : List ℕ → (e : ℕ) → List ℕ → Result Delivery Rejection
deliver_answer j e b = answer_of (outcome_of j (form e) b)

-- of an entry listed: 21 and 25, then 20 for a row that is too short
abbrev pub listed_by : Result Place Refusal → (room : ℕ) → Result Place Refusal
listed_by (Ok p) room = pick (ltb room row_size) (Err (refusal_by ShortOutput 0)) (Ok p)
listed_by (Err e) room = Err e

abbrev pub listed_answer : List ℕ → (e : ℕ) → (row : List ℕ) → Result Place Refusal
listed_answer j e row = listed_by (listed_place_of j e) (length row)

-- the entry's row into the first bytes, those after them as they were; a refusal leaves all as it was
abbrev pub content_by : Result Place Refusal → (x row : List ℕ) → List ℕ
content_by (Ok p) x row = x ++ drop row_size row
content_by (Err e) x row = row

abbrev pub listed_content : List ℕ → (e : ℕ) → (row : List ℕ) → List ℕ
listed_content j e row = content_by (listed_answer j e row) (row_of (entry_bytes j (e - 1))) row

-- of a file's length alone
abbrev pub length_answer : (e n : ℕ) → Result Frame Refusal
length_answer e n = frame_by (form e) record_size most_in_file n

-- of a file's beginning
abbrev pub earliest_answer : (e : ℕ) → List ℕ → Result ℕ Refusal
earliest_answer e b = beginning_of (form e) b

-- crownhazel_check
pub record CheckNumber (e : ℕ) (b : List ℕ) (r : ℕ) : Type 0 where
  pub answer : r ≡ packed_check (paper_check (check_answer e b))

-- crownhazel_open
pub record OpenNumber (j : List ℕ) (r : ℕ) (j' : List ℕ) : Type 0 where
  pub answer : r ≡ packed_opening (paper_opening (open_answer j))
  pub content : j' ≡ opened_of j

-- crownhazel_deliver
pub record DeliverNumber (j : List ℕ) (e : ℕ) (b : List ℕ) (r : ℕ) (j' : List ℕ) : Type 0 where
  pub answer : r ≡ packed_delivery (paper_delivery (deliver_answer j e b))
  pub content : j' ≡ content_of j (form e) b

-- crownhazel_expected_date: what a delivery now would say was expected, in the paper's record
pub record ExpectedDate (j : List ℕ) (e : ℕ) (b : List ℕ) (r : ℕ) : Type 0 where
  pub answer : r ≡ (paper_delivery (deliver_answer j e b)).expected_date

-- crownhazel_expected_balance
pub record ExpectedBalance (j : List ℕ) (e : ℕ) (b : List ℕ) (r : ℤ) : Type 0 where
  pub answer : r ≡ (paper_delivery (deliver_answer j e b)).expected_balance

-- crownhazel_entry
pub record EntryNumber (j : List ℕ) (e : ℕ) (r : ℕ) : Type 0 where
  pub answer : r ≡ packed_entry (paper_place (entry_place_of j e))

-- crownhazel_used
pub record UsedNumber (j : List ℕ) (r : ℕ) : Type 0 where
  pub answer : r ≡ packed_usage (paper_usage (usage_of j))

-- crownhazel_listed
pub record ListedNumber (j : List ℕ) (e : ℕ) (row : List ℕ) (r : ℕ) (row' : List ℕ) : Type 0 where
  pub answer : r ≡ packed_entry (paper_place (listed_answer j e row))
  pub content : row' ≡ listed_content j e row

-- crownhazel_length
pub record LengthNumber (e n : ℕ) (r : ℕ) : Type 0 where
  pub answer : r ≡ packed_length (paper_frame (length_answer e n))

-- crownhazel_earliest
pub record EarliestNumber (e : ℕ) (b : List ℕ) (r : ℕ) : Type 0 where
  pub answer : r ≡ packed_beginning (paper_beginning (earliest_answer e b))
