-- The contract of each public function: its one answer, the one final content of what is lent, and the answer as the paper gives it.
use Rattle.std.specs.Prelude.{◌≡◌, Bool, List, ℕ, eqb, ℤ, pos, Result, Ok, Err}
use Rattle.zones.specs.Choice.{pick}
use Rattle.framing.specs.declared.Form.{Form}
use Rattle.framing.specs.Refusals.{reason_number, refusal_of}
use Rattle.framing.specs.declared.refusals.Refusal.{Refusal}
use Rattle.journal.specs.Delivery.{Outcome, delivered, refused, outcome_of, content_of}
use Rattle.journal.specs.Newest.{newest_of, newest_part}
use Rattle.journal.specs.Holdings.{holding_of, body_in, of_account_in}
use Rattle.journal.specs.declared.Found.{Found}
use Rattle.journal.specs.declared.Found.TheVariants.{InJournal, InFile}
use Rattle.journal.specs.declared.Rejection.{Rejection}
use Rattle.journal.specs.declared.Delivery.{Delivery}

-- Number, record, stored and held, what was expected: zero where the paper says zero. Of a refusal every number but its own and the record's is 0, with this one exception: 22 says the new
-- date and the new balance of the account's last statement.
pub record PaperDelivery : Type 0 where
  pub number : ℕ
  pub at : ℕ
  pub stored : ℕ
  pub held : ℕ
  pub expected_date : ℕ
  pub expected_balance : ℤ

abbrev paper_done : (stored held : ℕ) → PaperDelivery
paper_done s h = record { number = 0; at = 0; stored = s; held = h; expected_date = 0; expected_balance = pos 0 }

abbrev paper_refused : Rejection → PaperDelivery
paper_refused r =
    record {
      number = reason_number r.refusal.reason;
      at = r.refusal.«record»;
      stored = 0;
      held = 0;
      expected_date = r.expected.date;
      expected_balance = r.expected.balance;
    }

abbrev pub paper_delivery : Result Delivery Rejection → PaperDelivery
paper_delivery (Ok d) = paper_done d.stored d.held
paper_delivery (Err r) = paper_refused r

-- number, record, and of a statement found: 1 where the journal holds it and 2 where the file does, first byte, length, line-end number, 0 for the journal, whose bodies have no line ends
pub record PaperNewest : Type 0 where
  pub number : ℕ
  pub at : ℕ
  pub source : ℕ
  pub first : ℕ
  pub len : ℕ
  pub line_end : ℕ

abbrev pub paper_newest : Result Found Refusal → PaperNewest
paper_newest (Ok (InJournal x n)) = record { number = 0; at = 0; source = 1; first = x; len = n; line_end = 0 }
paper_newest (Ok (InFile x n e)) = record { number = 0; at = 0; source = 2; first = x; len = n; line_end = e }
paper_newest (Err e) = record { number = reason_number e.reason; at = e.«record»; source = 0; first = 0; len = 0; line_end = 0 }

-- number and record, and how many are held; zero where the paper says zero
pub record PaperHolding : Type 0 where
  pub number : ℕ
  pub at : ℕ
  pub statements : ℕ

abbrev pub paper_holding : Result ℕ Refusal → PaperHolding
paper_holding (Ok n) = record { number = 0; at = 0; statements = n }
paper_holding (Err e) = record { number = reason_number e.reason; at = e.«record»; statements = 0 }

-- an answer without a refusal
abbrev pub done : (stored held : ℕ) → Result Delivery Rejection
done s h = Ok (record { stored = s; held = h })

-- an outcome as the code answers it
abbrev pub answer_of : Outcome → Result Delivery Rejection
answer_of (delivered ss s h) = done s h
answer_of (refused r) = Err r

-- and as the paper gives it
abbrev pub paper_outcome : Outcome → PaperDelivery
paper_outcome (delivered ss s h) = paper_done s h
paper_outcome (refused r) = paper_refused r

-- the code's answer that has a record: a refusal where there is a number
abbrev pub delivery_by : PaperDelivery → Result Delivery Rejection
delivery_by p =
    pick (eqb p.number 0) (done p.stored p.held)
    (Err (record { refusal = refusal_of p.number p.at; expected = record { date = p.expected_date; balance = p.expected_balance } }))

-- deliver: the paper's record is that of the outcome, and so is the case
pub record Delivers (j : List ℕ) (f : Form) (b : List ℕ) (r : Result Delivery Rejection) (j' : List ℕ) : Type 0 where
  pub paper : paper_delivery r ≡ paper_outcome (outcome_of j f b)
  pub answer : r ≡ answer_of (outcome_of j f b)
  pub content : j' ≡ content_of j f b

-- foretold: the same answer, of a delivery now
pub record Foretells (j : List ℕ) (f : Form) (b : List ℕ) (r : Result Delivery Rejection) : Type 0 where
  pub paper : paper_delivery r ≡ paper_outcome (outcome_of j f b)
  pub answer : r ≡ answer_of (outcome_of j f b)

-- newest_place
pub record NewestPlace (j : List ℕ) (f : Form) (b x : List ℕ) (r : Result Found Refusal) : Type 0 where
  pub answer : r ≡ newest_of j f b x

-- newest
pub record NewestPart (j : List ℕ) (f : Form) (b x r : List ℕ) : Type 0 where
  pub answer : r ≡ newest_part j f b x

-- held
pub record Holds (j : List ℕ) (r : Result ℕ Refusal) : Type 0 where
  pub answer : r ≡ holding_of j

-- body
pub record BodyOf (j : List ℕ) (e : ℕ) (r : List ℕ) : Type 0 where
  pub answer : r ≡ body_in j e

-- of_account
pub record OfAccount (x b : List ℕ) (r : Bool) : Type 0 where
  pub answer : r ≡ of_account_in x b
