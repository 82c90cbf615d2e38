-- The earliest old balance date among the statements of a file.
use Rattle.std.specs.Prelude.{Result, Ok, Err, ◌||◌, List, [], ◌∷◌, ℕ, eqb, ltb}
use Rattle.zones.specs.Choice.{pick}
use Rattle.framing.specs.declared.Form.{Form}
use Rattle.grammar.specs.Answer.{Answer, accepted, refused}
use Rattle.grammar.specs.Statements.{Statement}
use Rattle.grammar.specs.Files.{statements_of, check_of}
use Rattle.records.specs.July.{coding_of}
use Rattle.framing.specs.Refusals.{refusal_of}
use Rattle.framing.specs.declared.refusals.Refusal.{Refusal}

-- the earlier of a day that is kept and another; 0 is none kept yet
unfoldable pub earlier_of : (kept day : ℕ) → ℕ
earlier_of kept day = pick (eqb kept 0 || ltb day kept) day kept

-- the earliest of a day that is kept and the old dates of some statements
unfoldable pub earliest_from : (kept : ℕ) → List Statement → ℕ
earliest_from kept [] = kept
earliest_from kept (s ∷ ss) = earliest_from (earlier_of kept s.old_date) ss

-- the earliest old date, 0 where there is no statement
abbrev pub earliest_of : List Statement → ℕ
earliest_of ss = earliest_from 0 ss

-- the file's refusals come first
abbrev pub beginning_by : Answer → List Statement → Result ℕ Refusal
beginning_by (accepted c) ss = Ok (earliest_of ss)
beginning_by (refused n r) ss = Err (refusal_of n r)

unfoldable pub beginning_of : Form → List ℕ → Result ℕ Refusal
beginning_of f b = beginning_by (check_of (coding_of f) f b) (statements_of (coding_of f) f b)
