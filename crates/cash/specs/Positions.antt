-- THE POSITION of an account: its balance in value at the end of each day of a span, in a lent table.
use Rattle.std.specs.Prelude.{Bool, true, false, not, ◌||◌, List, [], ◌∷◌, ◌++◌, map, ℕ, eqb, ltb, length, drop, ℤ, Result, Ok, Err}
use Rattle.framing.specs.Files.{plain}
use Rattle.framing.specs.Refusals.{refusal_by}
use Rattle.framing.specs.declared.refusals.Reason.TheVariants.{UnsoundJournal, NoSpan, NoSuchEntry, ShortTable}
use Rattle.framing.specs.declared.refusals.Refusal.{Refusal}
use Rattle.zones.specs.Choice.{pick}
use Rattle.grammar.specs.declared.Key.{Key}
use Rattle.grammar.specs.Statements.{Statement}
use Rattle.records.specs.Looks.{look_of}
use Rattle.bodies.specs.Bodies.{closing_in}
use Rattle.journal_layout.specs.Chains.{of_account}
use Rattle.journal_layout.specs.Test.{sound_in, held_of}
use Rattle.journal.specs.Newest.{key_size, key_from}
use Rattle.journal.specs.Holdings.{body_in}
use Rattle.cash.specs.Value.{balance_at}
use Rattle.cash.specs.Spans.{span_days, no_span, days_from}

-- 25: no account has a key of another length; of this one no statement is held
abbrev pub is_none : List Statement → Bool
is_none [] = true
is_none (s ∷ ss) = false

unfoldable pub no_account : (x : List ℕ) → List Statement → Bool
no_account x ss = not (eqb (length x) key_size) || is_none (of_account (key_from x) ss)

-- 21, then 27, then 25, then 18 for a table shorter than the days, each with record 0; else the number of days
unfoldable pub position_of : (j x : List ℕ) → (first last room : ℕ) → Result ℕ Refusal
position_of j x first last room =
    pick (sound_in j)
    (pick (no_span first last) (Err (refusal_by NoSpan 0))
    (pick (no_account x (held_of j)) (Err (refusal_by NoSuchEntry 0))
    (pick (ltb room (span_days first last)) (Err (refusal_by ShortTable 0)) (Ok (span_days first last)))))
    (Err (refusal_by UnsoundJournal 0))

-- an amount for each day, from the first on
unfoldable pub amounts_of : Key → List Statement → (first n : ℕ) → List ℤ
amounts_of k ss first n = map (λ day. balance_at k day ss) (days_from first n)

-- into the first numbers of the table, those after them as they were; a refusal leaves all as it was
abbrev pub table_by : Result ℕ Refusal → Key → List Statement → (first : ℕ) → List ℤ → List ℤ
table_by (Ok n) k ss first t = amounts_of k ss first n ++ drop n t
table_by (Err e) k ss first t = t

unfoldable pub table_of : (j x : List ℕ) → (first last : ℕ) → List ℤ → List ℤ
table_of j x first last t = table_by (position_of j x first last (length t)) (key_from x) (held_of j) first t

-- the new balance of entry e, from 1, without the sound test: what stands in the last record of its body, 0 where there is none
unfoldable pub balance_in : List ℕ → ℕ → ℤ
balance_in j e = (look_of (closing_in plain (body_in j e))).amount
