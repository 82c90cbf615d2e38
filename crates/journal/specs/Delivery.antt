-- A delivery: a file's statements in turn, on the statements held as the earlier ones leave them.
use Rattle.std.specs.Prelude.{Bool, true, false, List, [], ◌∷◌, ◌++◌, ℕ, ◌+◌, ◌-◌, ◌/◌, leb, ltb, length, ℤ, pos, Result, Ok, Err}
use Rattle.zones.specs.Choice.{pick}
use Rattle.framing.specs.declared.Form.{Form}
use Rattle.framing.specs.Refusals.{refusal_of, refusal_by}
use Rattle.framing.specs.declared.refusals.Refusal.{Refusal}
use Rattle.framing.specs.declared.refusals.Reason.TheVariants.{UnsoundJournal, NotNext, FullContents, FullJournal}
use Rattle.grammar.specs.Answer as G
use Rattle.grammar.specs.Statements.{Statement}
use Rattle.grammar.specs.Files.{statements_of, check_of}
use Rattle.grammar.specs.Parts.{size_of}
use Rattle.records.specs.July.{record_size, coding_of}
use Rattle.entries.specs.Entries.{most_entries, table_size}
use Rattle.journal_layout.specs.declared.Judgement.{Judgement}
use Rattle.journal_layout.specs.declared.Judgement.TheVariants.{Held, First, After}
use Rattle.journal_layout.specs.Chains.{judgement_of, follows_by}
use Rattle.journal_layout.specs.Layout.{lines_of, journal_of}
use Rattle.journal_layout.specs.Test.{sound_in, held_of}
use Rattle.journal.specs.declared.Rejection.{Rejection}
use Rattle.journal.specs.declared.Verdict.{Verdict}
use Rattle.journal.specs.declared.Verdict.TheVariants.{Hold, Store}

-- a refusal with which nothing was expected
abbrev pub rejection : Refusal → Rejection
rejection r = record { refusal = r; expected = record { date = 0; balance = pos 0 } }

abbrev pub is_held : Judgement → Bool
is_held Held = true
is_held First = false
is_held (After d b) = false

-- WHAT WAS EXPECTED: the new date and the new balance of the last statement of the account, as the others say them; zero where there is none
abbrev pub last_date : Judgement → ℕ
last_date Held = 0
last_date First = 0
last_date (After d b) = d

abbrev pub last_balance : Judgement → ℤ
last_balance Held = pos 0
last_balance First = pos 0
last_balance (After d b) = b

-- 22: a statement that does not follow, with what was expected of it. No other refusal says that.
abbrev pub not_next : Judgement → (at : ℕ) → Rejection
not_next j at = record { refusal = refusal_by NotNext at; expected = record { date = last_date j; balance = last_balance j } }

-- What becomes of a statement. A held one is held, also if the table is full. Otherwise it must follow, else 22. Then no entry left gives 23, too few lines left 24. A refusal reports the 01's record.
abbrev pub verdict_by : Judgement → (date : ℕ) → (balance : ℤ) → (entries left size at : ℕ) → Result Verdict Rejection
verdict_by j d b entries left size at =
    pick (is_held j) (Ok Hold)
    (pick (follows_by j d b)
    (pick (ltb entries most_entries) (pick (leb size left) (Ok Store) (Err (rejection (refusal_by FullJournal at)))) (Err (rejection (refusal_by FullContents at))))
    (Err (not_next j at)))

-- a statement, whose 01 is record `at` of its file, beside those held in a journal of n lines
unfoldable pub verdict_of : (n : ℕ) → List Statement → Statement → (at : ℕ) → Result Verdict Rejection
verdict_of n hs s at = verdict_by (judgement_of s hs) s.old_date s.old_balance (length hs) (n - lines_of hs) (size_of s) at

-- what a delivery comes to: the statements held then, and how many were stored and how many were held; or a refusal
pub data Outcome : Type 0 where
  delivered : (list : List Statement) → (stored held : ℕ) → Outcome
  refused : Rejection → Outcome

-- one of three, by a verdict
abbrev pub proceed : {A : Type 0} → Result Verdict Rejection → (held stored : A) → (Rejection → A) → A
proceed (Ok Hold) a b c = a
proceed (Ok Store) a b c = b
proceed (Err r) a b c = c r

-- so many records of the file are behind, so many statements stored and held
unfoldable pub run : (n : ℕ) → List Statement → (behind stored held : ℕ) → List Statement → Outcome
run n hs behind stored held [] = delivered hs stored held
run n hs behind stored held (s ∷ ss) =
    proceed (verdict_of n hs s (behind + 1))
    (run n hs (behind + size_of s) stored (held + 1) ss)
    (run n (hs ++ (s ∷ [])) (behind + size_of s) (stored + 1) held ss)
    refused

-- the body lines of a journal
abbrev pub lines_in : List ℕ → ℕ
lines_in j = (length j - table_size) / record_size

-- the file's refusals, then its statements
abbrev pub outcome_by : G.Answer → Outcome → Outcome
outcome_by (G.accepted c) o = o
outcome_by (G.refused n r) o = refused (rejection (refusal_of n r))

-- THE DELIVERY: 21 first, then the file's refusals, then its statements in turn
unfoldable pub outcome_of : List ℕ → Form → List ℕ → Outcome
outcome_of j f b =
    pick (sound_in j) (outcome_by (check_of (coding_of f) f b) (run (lines_in j) (held_of j) 0 0 0 (statements_of (coding_of f) f b))) (refused (rejection (refusal_by UnsoundJournal 0)))

-- the journal's bytes after it: any refusal leaves the whole journal unchanged
abbrev pub content_by : List ℕ → Outcome → List ℕ
content_by j (delivered ss stored held) = journal_of (lines_in j) ss
content_by j (refused r) = j

unfoldable pub content_of : List ℕ → Form → List ℕ → List ℕ
content_of j f b = content_by j (outcome_of j f b)
