-- The contract of the check, and its answer as the paper gives it.
use Rattle.std.specs.Prelude.{◌≡◌, List, ℕ, eqb, Option, Some, None, Result, Ok, Err}
use Rattle.zones.specs.Choice.{pick}
use Rattle.framing.specs.declared.Form.{Form}
use Rattle.grammar.specs.Answer.{Answer, accepted, refused}
use Rattle.grammar.specs.Files.{check_of}
use Rattle.records.specs.July.{coding_of}
use Rattle.framing.specs.Refusals.{reason_number, reason_of, refusal_of}
use Rattle.framing.specs.declared.refusals.Reason.{Reason}
use Rattle.framing.specs.declared.refusals.Refusal.{Refusal}
use Rattle.statements.specs.declared.Counts.{Counts}

-- the reason that a judgement gives by its number: none where no rule applies
abbrev pub reason_in : ℕ → Option Reason
reason_in n = pick (eqb n 0) None (Some (reason_of n))

-- an answer of the definitions as the code gives it
abbrev pub checked_of : Answer → Result Counts Refusal
checked_of (accepted c) = Ok (record { statements = c.statements; movements = c.movements; complements = c.complements })
checked_of (refused n r) = Err (refusal_of n r)

-- and back
abbrev pub answer_of : Result Counts Refusal → Answer
answer_of (Ok c) = accepted (record { statements = c.statements; movements = c.movements; complements = c.complements })
answer_of (Err e) = refused (reason_number e.reason) e.«record»

-- number, record, statements, movements and complements: zero where the paper says zero
pub record Paper : Type 0 where
  pub number : ℕ
  pub at : ℕ
  pub statements : ℕ
  pub movements : ℕ
  pub complements : ℕ

abbrev pub paper_check : Result Counts Refusal → Paper
paper_check (Ok c) = record { number = 0; at = 0; statements = c.statements; movements = c.movements; complements = c.complements }
paper_check (Err e) = record { number = reason_number e.reason; at = e.«record»; statements = 0; movements = 0; complements = 0 }

-- the same of an answer of the definitions
abbrev pub paper_of : Answer → Paper
paper_of (accepted c) = record { number = 0; at = 0; statements = c.statements; movements = c.movements; complements = c.complements }
paper_of (refused n r) = record { number = n; at = r; statements = 0; movements = 0; complements = 0 }

-- the code's answer that has a record: a refusal where there is a number
abbrev pub checked_by : Paper → Result Counts Refusal
checked_by p =
    pick (eqb p.number 0) (Ok (record { statements = p.statements; movements = p.movements; complements = p.complements })) (Err (refusal_of p.number p.at))

-- check: the paper's record is that of the definitions' answer, and so is the case
pub record Check (f : Form) (b : List ℕ) (r : Result Counts Refusal) : Type 0 where
  pub paper : paper_check r ≡ paper_of (check_of (coding_of f) f b)
  pub answer : r ≡ checked_of (check_of (coding_of f) f b)
