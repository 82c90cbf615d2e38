-- The movements of a statement as rows of a lent table.
use Rattle.std.specs.Prelude.{Result, Ok, Err, List, [], ◌∷◌, ◌++◌, ℕ, ◌-◌, ltb, length, drop, get_or}
use Rattle.zones.specs.Choice.{pick}
use Rattle.framing.specs.declared.Form.{Form}
use Rattle.framing.specs.Refusals.{refusal_by}
use Rattle.framing.specs.declared.refusals.Reason.TheVariants.{ShortTable}
use Rattle.framing.specs.declared.refusals.Refusal.{Refusal}
use Rattle.grammar.specs.Statements as values
use Rattle.grammar.specs.Statements.{Statement}
use Rattle.grammar.specs.Files.{statements_of}
use Rattle.grammar.specs.Parts.{no_statement}
use Rattle.records.specs.July.{coding_of}
use Rattle.fields.specs.Rows.{row_of}
use Rattle.fields.specs.declared.Movement.{Movement}
use Rattle.readers.specs.Places.{place_of}
use Rattle.readers.specs.declared.Place.{Place}

-- a statement's movements as rows, in file order
unfoldable pub rows_of : List values.Movement → List Movement
rows_of [] = []
rows_of (m ∷ ms) = row_of m.posting (length m.complements) ∷ rows_of ms

-- rows from the first on; those after the last are untouched
abbrev pub laid : (rows table : List Movement) → List Movement
laid rows t = rows ++ drop (length rows) t

-- the file's refusals, then 16, then 18: lent table too short
abbrev pub answer_by : Result Place Refusal → Statement → (table : ℕ) → Result ℕ Refusal
answer_by (Ok p) s n = pick (ltb n (length s.movements)) (Err (refusal_by ShortTable 0)) (Ok (length s.movements))
answer_by (Err e) s n = Err e

-- on refusal no row changes
abbrev pub table_by : Result Place Refusal → Statement → List Movement → List Movement
table_by (Ok p) s t = pick (ltb (length t) (length s.movements)) t (laid (rows_of s.movements) t)
table_by (Err e) s t = t

-- the number of movements of statement k for a table of so many rows, or the refusal; and what the table then holds
unfoldable pub table_answer_of : Form → List ℕ → (k table : ℕ) → Result ℕ Refusal
table_answer_of f b k n = answer_by (place_of f b k) (get_or (statements_of (coding_of f) f b) (k - 1) no_statement) n

unfoldable pub table_of : Form → List ℕ → ℕ → List Movement → List Movement
table_of f b k t = table_by (place_of f b k) (get_or (statements_of (coding_of f) f b) (k - 1) no_statement) t
