-- The one number of each exported function's answer, by `packing`, from the answer as the paper gives it; and back from the bits.
--
-- What a, b and c are where it answered: the check's statements, movements and complements; opening all 0; the delivery's stored and held; an entry's number of
-- records and first body line, listed or not; the entries used, the body lines used and those in all; the records of a file of some length; the low 20 bits of the
-- day that a file begins on, and those above them.
use Rattle.std.specs.Prelude.{ℕ, ◌-◌, ◌*◌, ◌/◌, ◌%◌, ℤ}
use Rattle.packing.specs.Packing.{bit20, bit40, a_in, b_in, c_in, packed, refusal_in, record_in, value_or_zero}
use Rattle.records.specs.July.{record_size}
use Rattle.framing.specs.Answers.{PaperFrame}
use Rattle.statements.specs.Answers.{Paper}
use Rattle.readers.specs.Answers.{PaperPlace}
use Rattle.contents.specs.Answers.{PaperBeginning}
use Rattle.entries.specs.Entries.{table_size, line_at}
use Rattle.journal_layout.specs.Answers.{PaperUsage}
use Rattle.journal.specs.Answers.{PaperDelivery}

-- each answer's number
abbrev pub packed_check : Paper → ℕ
packed_check p = packed p.number p.at p.statements p.movements p.complements

abbrev pub packed_opening : ℕ × ℕ → ℕ
packed_opening p = packed p.0 p.1 0 0 0

abbrev pub packed_delivery : PaperDelivery → ℕ
packed_delivery p = packed p.number p.at p.stored p.held 0

-- from the first byte and the length of a body to its number of records and its first line
abbrev pub packed_entry : PaperPlace → ℕ
packed_entry p = packed p.number p.at (p.len / record_size) ((p.first - table_size) / record_size) 0

abbrev pub packed_usage : PaperUsage → ℕ
packed_usage p = packed p.number p.at p.entries p.used p.lines

abbrev pub packed_length : PaperFrame → ℕ
packed_length p = packed p.number p.at p.records 0 0

-- a day is one number over a and b
abbrev pub packed_beginning : PaperBeginning → ℕ
packed_beginning p = packed p.number p.at (p.day % bit20) (p.day / bit20) 0

-- and back
abbrev pub paper_check_in : ℕ → Paper
paper_check_in n =
    record {
      number = refusal_in n;
      at = record_in n;
      statements = value_or_zero n (a_in n);
      movements = value_or_zero n (b_in n);
      complements = value_or_zero n (c_in n);
    }

abbrev pub paper_opening_in : ℕ → ℕ × ℕ
paper_opening_in n = (refusal_in n, record_in n)

-- with what was expected, which no 64 bits hold beside the rest: two numbers of their own
abbrev pub paper_delivery_in : ℕ → (date : ℕ) → (balance : ℤ) → PaperDelivery
paper_delivery_in n d a =
    record {
      number = refusal_in n;
      at = record_in n;
      stored = value_or_zero n (a_in n);
      held = value_or_zero n (b_in n);
      expected_date = d;
      expected_balance = a;
    }

abbrev pub paper_place_in : ℕ → PaperPlace
paper_place_in n =
    record {
      number = refusal_in n;
      at = record_in n;
      first = value_or_zero n (line_at (b_in n));
      len = value_or_zero n (record_size * a_in n);
    }

abbrev pub paper_usage_in : ℕ → PaperUsage
paper_usage_in n =
    record {
      number = refusal_in n;
      at = record_in n;
      entries = value_or_zero n (a_in n);
      used = value_or_zero n (b_in n);
      lines = value_or_zero n (c_in n);
    }

abbrev pub paper_length_in : ℕ → PaperFrame
paper_length_in n = record { number = refusal_in n; at = record_in n; records = value_or_zero n (a_in n) }

-- the day is the number in the bits 0 to 39
abbrev pub packed_day : ℕ → ℕ
packed_day n = n % bit40

abbrev pub paper_beginning_in : ℕ → PaperBeginning
paper_beginning_in n = record { number = refusal_in n; at = record_in n; day = value_or_zero n (packed_day n) }
