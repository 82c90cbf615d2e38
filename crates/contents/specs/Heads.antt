-- The head of a statement, by value.
use Rattle.std.specs.Prelude.{Result, Ok, Err, List, [], ℕ, ◌+◌, ◌-◌, ltb, length, take, drop, get_or, pos}
use Rattle.zones.specs.Choice.{pick}
use Rattle.framing.specs.declared.Form.{Form}
use Rattle.framing.specs.declared.refusals.Refusal.{Refusal}
use Rattle.grammar.specs.Answer.{Answer, accepted, refused}
use Rattle.grammar.specs.Statements.{Statement}
use Rattle.grammar.specs.Files.{statements_of}
use Rattle.grammar.specs.Parts.{no_statement}
use Rattle.records.specs.July.{record_size, coding_of}
use Rattle.records.specs.Looks.{look_of}
use Rattle.fields.specs.Rows.{no_key, key_at_of}
use Rattle.readers.specs.Places.{place_of}
use Rattle.readers.specs.declared.Place.{Place}
use Rattle.contents.specs.declared.Head.{Head}
use Rattle.contents.specs.declared.Summary.{Summary}

-- the record's bytes at a place, none where there are not so many
unfoldable pub record_at_of : List ℕ → ℕ → List ℕ
record_at_of b at = pick (ltb (length b) (at + record_size)) [] (take record_size (drop at b))

abbrev pub head_from : Statement → Head
head_from s =
    record {
      key = s.key;
      old_date = s.old_date;
      old_balance = s.old_balance;
      new_date = s.new_date;
      new_balance = s.new_balance;
    }

-- where there is no statement every number and byte is 0
abbrev pub no_head : Head
no_head = record { key = no_key; old_date = 0; old_balance = pos 0; new_date = 0; new_balance = pos 0 }

-- the head with its movement count
abbrev pub head_among : Statement → Summary
head_among s = record { head = head_from s; movements = length s.movements }

-- the file's refusals, then 16
abbrev pub head_by : Result Place Refusal → Statement → Result Summary Refusal
head_by (Ok p) s = Ok (head_among s)
head_by (Err e) s = Err e

unfoldable pub head_in : Form → List ℕ → ℕ → Result Summary Refusal
head_in f b k = head_by (place_of f b k) (get_or (statements_of (coding_of f) f b) (k - 1) no_statement)

-- the head that two records hold
unfoldable pub head_at : (opening closing : List ℕ) → Head
head_at o c =
    record {
      key = key_at_of o;
      old_date = (look_of o).day;
      old_balance = (look_of o).amount;
      new_date = (look_of c).day;
      new_balance = (look_of c).amount;
    }

-- how many movements an answer counts
abbrev pub movements_in : Answer → ℕ
movements_in (accepted c) = c.movements
movements_in (refused n r) = 0

-- and how many statements
abbrev pub statements_in : Answer → ℕ
statements_in (accepted c) = c.statements
statements_in (refused n r) = 0
