-- What is read of a journal for the crates above it: how many statements it holds, the body of an entry, and whether a body is an account's.
use Rattle.std.specs.Prelude.{Bool, false, List, [], ℕ, ◌-◌, eqb, length, Result, Ok, Err}
use Rattle.zones.specs.Choice.{pick}
use Rattle.framing.specs.Refusals.{refusal_by}
use Rattle.framing.specs.declared.refusals.Refusal.{Refusal}
use Rattle.framing.specs.declared.refusals.Reason.TheVariants.{UnsoundJournal}
use Rattle.contents.specs.Heads.{record_at_of}
use Rattle.entries.specs.Entries.{body_at}
use Rattle.journal_layout.specs.Test.{sound_in, held_of}
use Rattle.journal.specs.Newest.{key_size, is_account}

-- 21; else the number of statements
unfoldable pub holding_of : List ℕ → Result ℕ Refusal
holding_of j = pick (sound_in j) (Ok (length (held_of j))) (Err (refusal_by UnsoundJournal 0))

-- the body of entry e, from 1, without the sound test: what stands there, nothing where there is no such entry
unfoldable pub body_in : List ℕ → ℕ → List ℕ
body_in j e = pick (eqb e 0) [] (body_at j (e - 1))

-- the account of a body is the one that 25 bytes name; no account has a key of another length
unfoldable pub of_account_in : (x body : List ℕ) → Bool
of_account_in x b = pick (eqb (length x) key_size) (is_account x (record_at_of b 0)) false
