-- A statement as the journal keeps it: its records as the writer would write them, without line ends, one after another.
use Rattle.std.specs.Prelude.{Bool, true, false, ◌&&◌, ◌||◌, List, [], ◌∷◌, ◌++◌, map, ℕ, ◌-◌, ◌*◌, eqb, ltb, length, take, drop, get_or}
use Rattle.zones.specs.Choice.{pick}
use Rattle.zones.specs.Copy.{same_bytes}
use Rattle.zones.specs.Pieces.{flat}
use Rattle.framing.specs.declared.Form.{Form}
use Rattle.framing.specs.Files.{unknown_end, width_of, count_of, pieces_of, plain}
use Rattle.grammar.specs.Answer.{Answer, accepted, refused}
use Rattle.grammar.specs.Record.{opening, closing}
use Rattle.grammar.specs.Statements.{Statement, records_of}
use Rattle.grammar.specs.Files.{statements_of, check_of}
use Rattle.grammar.specs.Parts.{no_statement}
use Rattle.records.specs.July.{record_size, july2004, encode_record, canon_record, no_debit_zero, coding_of}
use Rattle.contents.specs.Heads.{record_at_of}

-- the form in which the journal keeps a record: as the writer writes it
unfoldable pub kept : List ℕ → List ℕ
kept r = canon_record r

-- the body of a statement
unfoldable pub body_of : Statement → List ℕ
body_of s = flat (map encode_record (records_of july2004 s))

-- two statements with identical records
unfoldable pub identical : Statement → Statement → Bool
identical a b = same_bytes (body_of a) (body_of b)

-- its 01 and its 07 as they are written
unfoldable pub opening_text : Statement → List ℕ
opening_text s = encode_record (opening s.key s.old_date s.old_balance)

unfoldable pub closing_text : Statement → List ℕ
closing_text s = encode_record (closing s.key s.new_date s.new_balance)

-- accepted, and exactly one statement
abbrev pub counts_one : Answer → Bool
counts_one (accepted c) = eqb c.statements 1
counts_one (refused n r) = false

-- a body stands alone: as a file it is one statement, and it has no debit zero
unfoldable pub single : List ℕ → Bool
single b = counts_one (check_of (coding_of plain) plain b) && no_debit_zero (pieces_of record_size plain b)

-- the statement that a body reads as
unfoldable pub statement_of : List ℕ → Statement
statement_of b = get_or (statements_of (coding_of plain) plain b) 0 no_statement

-- two records are kept alike
abbrev pub same_record : List ℕ → List ℕ → Bool
same_record a b = same_bytes (kept a) (kept b)

-- two rows of records, each with what stands after it, record by record
unfoldable pub same_rows : List (List ℕ) → List (List ℕ) → Bool
same_rows [] [] = true
same_rows [] (q ∷ qs) = false
same_rows (p ∷ ps) [] = false
same_rows (p ∷ ps) (q ∷ qs) = same_record (take record_size p) (take record_size q) && same_rows ps qs

-- two parts hold the same records, whatever their line ends and the signs of their zeros; none of an unknown line end
unfoldable pub same_records : Form → List ℕ → Form → List ℕ → Bool
same_records f a g b =
    pick (unknown_end f || unknown_end g) false (same_rows (pieces_of record_size f a) (pieces_of record_size g b))

-- the records of a row of pieces, as they are kept
unfoldable pub kept_rows : List (List ℕ) → List ℕ
kept_rows [] = []
kept_rows (p ∷ ps) = kept (take record_size p) ++ kept_rows ps

-- the body of a part: its records as they are kept, without line ends
unfoldable pub body_in : Form → List ℕ → List ℕ
body_in f b = kept_rows (pieces_of record_size f b)

-- into the first bytes of a buffer; nothing where it is too short, or the line end is unknown
unfoldable pub body_put : Form → (b dst : List ℕ) → List ℕ
body_put f b dst =
    let n = record_size * count_of record_size f b in
    pick (unknown_end f || ltb (length dst) n) dst (body_in f b ++ drop n dst)

-- the last record of a part, none where there is none
unfoldable pub closing_in : Form → List ℕ → List ℕ
closing_in f b =
    pick (unknown_end f || ltb (length b) (width_of record_size f)) [] (record_at_of b (length b - width_of record_size f))
