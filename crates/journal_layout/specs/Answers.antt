-- The contract of each public function: its one answer, the one final content of what is lent, and the answer as the paper gives it.
use Rattle.std.specs.Prelude.{Result, Ok, Err, ◌≡◌, Bool, true, false, List, ℕ, length, ℤ, pos}
use Rattle.zones.specs.Choice.{pick}
use Rattle.framing.specs.declared.Form.{Form}
use Rattle.framing.specs.Refusals.{reason_number, refusal_by}
use Rattle.framing.specs.declared.refusals.Reason.TheVariants.{UnsoundJournal}
use Rattle.framing.specs.declared.refusals.Refusal.{Refusal}
use Rattle.readers.specs.declared.Place.{Place}
use Rattle.journal_layout.specs.declared.Free.{Free}
use Rattle.journal_layout.specs.declared.Judgement.{Judgement}
use Rattle.journal_layout.specs.declared.Judgement.TheVariants as J
use Rattle.journal_layout.specs.declared.Usage.{Usage}
use Rattle.journal_layout.specs.Chains.{follows_by}
use Rattle.journal_layout.specs.Layout.{is_length, opened_of}
use Rattle.journal_layout.specs.Test.{later_of, judged_by, sound_in, free_in, usage_of, entry_place_of, listed_place_of, entry_body_of}

-- number and record; zero where the paper says zero
abbrev pub paper_opening : Result Unit Refusal → ℕ × ℕ
paper_opening (Ok u) = (0, 0)
paper_opening (Err e) = (reason_number e.reason, e.«record»)

-- number and record, and the three numbers; zero where the paper says zero
pub record PaperUsage : Type 0 where
  pub number : ℕ
  pub at : ℕ
  pub entries : ℕ
  pub used : ℕ
  pub lines : ℕ

abbrev pub paper_usage : Result Usage Refusal → PaperUsage
paper_usage (Ok u) = record { number = 0; at = 0; entries = u.entries; used = u.used; lines = u.lines }
paper_usage (Err e) = record { number = reason_number e.reason; at = e.«record»; entries = 0; used = 0; lines = 0 }

-- what a judgement stands for: whether the statement is held, whether it is the first of its account; else the new date and the new balance of the one that it comes after
pub record PaperJudgement : Type 0 where
  pub held : Bool
  pub first : Bool
  pub date : ℕ
  pub balance : ℤ

abbrev pub paper_judgement : Judgement → PaperJudgement
paper_judgement J.Held = record { held = true; first = false; date = 0; balance = pos 0 }
paper_judgement J.First = record { held = false; first = true; date = 0; balance = pos 0 }
paper_judgement (J.After d a) = record { held = false; first = false; date = d; balance = a }

-- later
pub record Later (last : Judgement) (f : Form) (h s : List ℕ) (r : Judgement) : Type 0 where
  pub answer : r ≡ later_of last f h s

-- follows
pub record FollowsOn (j : Judgement) (date : ℕ) (balance : ℤ) (r : Bool) : Type 0 where
  pub answer : r ≡ follows_by j date balance

-- judged
pub record Judged (j : List ℕ) (n : ℕ) (f : Form) (s : List ℕ) (r : Judgement) : Type 0 where
  pub answer : r ≡ judged_by j n f s

-- sound
pub record Sound (j : List ℕ) (r : Bool) : Type 0 where
  pub answer : r ≡ sound_in j

-- first_free
pub record FirstFree (j : List ℕ) (r : Free) : Type 0 where
  pub answer : r ≡ free_in j

-- used
pub record UsedOf (j : List ℕ) (r : Result Usage Refusal) : Type 0 where
  pub answer : r ≡ usage_of j

-- open: 21 for a length that no journal has
pub record Opens (j : List ℕ) (r : Result Unit Refusal) (j' : List ℕ) : Type 0 where
  pub answer : r ≡ pick (is_length (length j)) (Ok tt) (Err (refusal_by UnsoundJournal 0))
  pub content : j' ≡ opened_of j

-- entry_place
pub record EntryPlace (j : List ℕ) (e : ℕ) (r : Result Place Refusal) : Type 0 where
  pub answer : r ≡ entry_place_of j e

-- listed_place
pub record ListedPlace (j : List ℕ) (e : ℕ) (r : Result Place Refusal) : Type 0 where
  pub answer : r ≡ listed_place_of j e

-- entry
pub record EntryBody (j : List ℕ) (e : ℕ) (r : List ℕ) : Type 0 where
  pub answer : r ≡ entry_body_of j e
