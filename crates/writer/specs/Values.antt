-- A head, rows and complements as the statement that they say.
use Rattle.std.specs.Prelude.{◌≡◌, List, [], ◌∷◌, ◌++◌, map, ℕ, ◌+◌, ◌*◌, ◌<◌, length, take, drop, get_or}
use Rattle.zones.specs.Pieces.{flat}
use Rattle.framing.specs.declared.Form.{Form}
use Rattle.framing.specs.Files.{chunks, pieces_of}
use Rattle.grammar.specs.Statements as values
use Rattle.grammar.specs.Statements.{Statement, records_of}
use Rattle.grammar.specs.Files.{Reads, Writable}
use Rattle.grammar.specs.Parts.{no_statement}
use Rattle.records.specs.July.{record_size, july, july2004, encode_record, coding_of, text_size}
use Rattle.fields.specs.declared.Movement.{Movement}
use Rattle.contents.specs.Heads.{head_from}
use Rattle.contents.specs.declared.Head.{Head}
use Rattle.tables.specs.Tables.{rows_of}
use Rattle.writing.specs.Written.{posting_of}

-- each row a movement, with as many complements as it counts; they stand one after another
unfoldable pub movements_from : List Movement → List ℕ → List values.Movement
movements_from [] cs = []
movements_from (r ∷ rs) cs =
    record { posting = posting_of r; complements = chunks text_size r.complements cs } ∷ movements_from rs (drop (r.complements * text_size) cs)

abbrev pub statement_from : Head → List Movement → List ℕ → Statement
statement_from h rows cs =
    record {
      key = h.key;
      old_date = h.old_date;
      old_balance = h.old_balance;
      movements = movements_from rows cs;
      new_date = h.new_date;
      new_balance = h.new_balance;
    }

-- the number of complements that the rows count
unfoldable pub counted_in : List Movement → ℕ
counted_in [] = 0
counted_in (r ∷ rs) = r.complements + counted_in rs

-- the complements of some movements
unfoldable pub texts_of : List values.Movement → List (List ℕ)
texts_of [] = []
texts_of (m ∷ ms) = m.complements ++ texts_of ms

-- An accepted file reads as these values: one of its statements, counted from 0, has them.
pub record ReadAs (h : Head) (rows : List Movement) (cs : List ℕ) : Type 0 where
  pub form : Form
  pub file : List ℕ
  pub statements : List Statement
  pub reads : Reads (coding_of form) form file statements
  pub number : ℕ
  pub inside : number < length statements
  pub same_head : head_from (get_or statements number no_statement) ≡ h
  pub same_rows : rows_of (get_or statements number no_statement).movements ≡ rows
  pub same_complements : flat (texts_of (get_or statements number no_statement).movements) ≡ cs

-- The complements are as many as the rows count, and some accepted file reads as the statement.
pub record Carried (h : Head) (rows : List Movement) (cs : List ℕ) : Type 0 where
  pub whole : length cs ≡ counted_in rows * text_size
  pub writable : Writable july (statement_from h rows cs)

-- its records, one after another, without line ends
unfoldable pub written_of : Head → List Movement → List ℕ → List ℕ
written_of h rows cs = flat (map encode_record (records_of july2004 (statement_from h rows cs)))

-- the records of a file, one after another, without line ends
unfoldable pub records_in : Form → List ℕ → List ℕ
records_in f b = flat (map (take record_size) (pieces_of record_size f b))
