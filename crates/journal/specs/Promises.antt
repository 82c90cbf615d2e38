-- What the journal promises to the crates above it, and all that they may use: the statements that a sound journal holds, and what a delivery adds.
use Rattle.std.specs.Prelude.{◌≡◌, true, false, List, [], ◌∷◌, ◌++◌, ℕ, ◌+◌, ◌-◌, ◌<◌, ◌≤◌, eqb, length, get_or, Ok, Err}
use Rattle.zones.specs.Choice.{pick}
use Rattle.framing.specs.declared.Form.{Form}
use Rattle.framing.specs.Files.{All, plain}
use Rattle.framing.specs.Refusals.{refusal_by}
use Rattle.framing.specs.declared.refusals.Reason.TheVariants.{NoSuchEntry}
use Rattle.grammar.specs.declared.Key.{Key}
use Rattle.grammar.specs.Record.{same_key}
use Rattle.grammar.specs.Statements.{Statement}
use Rattle.grammar.specs.Files.{Reads, Writable, statements_of}
use Rattle.grammar.specs.Parts.{no_statement}
use Rattle.records.specs.July.{july, coding_of}
use Rattle.bodies.specs.Bodies.{body_of}
use Rattle.entries.specs.Entries.{most_entries}
use Rattle.journal_layout.specs.Chains.{Chained, of_account, NeverFalls, Distinct}
use Rattle.journal_layout.specs.Layout.{most_lines, lines_of}
use Rattle.journal_layout.specs.Test.{sound_in, held_of, entry_place_of, entry_body_of}
use Rattle.journal.specs.declared.Rejection.{Rejection}
use Rattle.journal.specs.Delivery.{outcome_of, content_of}
use Rattle.journal.specs.Answers.{done, answer_of}
use Rattle.journal.specs.Arrivals.{arrivals, Summed}
use Rattle.journal.specs.Newest.{key_size, key_from}
use Rattle.journal.specs.Holdings.{holding_of, body_in, of_account_in}

-- the journal j holds the statements ss
pub record Promise (j : List ℕ) (ss : List Statement) : Type 0 where
  -- each is a statement that a file can hold; they are few, and so are their records
  pub alone : All (Writable july) ss
  pub few : length ss ≤ most_entries
  pub lines : lines_of ss ≤ most_lines
  -- no two identical; each account's in an unbroken chain; its first old balance plus every movement is its last new balance
  pub distinct : Distinct ss
  pub chained : (k : Key) → Chained (of_account k ss)
  pub summed : (k : Key) → Summed (of_account k ss)
  -- along an account's chain new dates never fall: its last new date is its latest
  pub never_falls : (k : Key) → NeverFalls (of_account k ss)
  -- the body of entry e, from 1, is that of statement e; there is no other
  pub entry : (e : ℕ) → 0 < e → e ≤ length ss → entry_body_of j e ≡ body_of (get_or ss (e - 1) no_statement)
  pub no_entry : (e : ℕ) → length ss < e → entry_place_of j e ≡ Err (refusal_by NoSuchEntry 0)
  -- after one test: how many there are, the body of entry e, what it reads as, whose it is, and that there is no other
  pub held : holding_of j ≡ Ok (length ss)
  pub body : (e : ℕ) → 0 < e → e ≤ length ss → body_in j e ≡ body_of (get_or ss (e - 1) no_statement)
  pub reads : (e : ℕ) → 0 < e → e ≤ length ss → Reads (coding_of plain) plain (body_in j e) (get_or ss (e - 1) no_statement ∷ [])
  pub account : (x : List ℕ) (e : ℕ) → 0 < e → e ≤ length ss
      → of_account_in x (body_in j e) ≡ pick (eqb (length x) key_size) (same_key (get_or ss (e - 1) no_statement).key (key_from x)) false
  pub no_body : (e : ℕ) → length ss < e → body_in j e ≡ []

-- a delivery without a refusal adds the statements that are new, in order of first arrival; a refused one changes nothing
pub record Adds (j : List ℕ) (f : Form) (b : List ℕ) : Type 0 where
  pub stored : (s h : ℕ) → answer_of (outcome_of j f b) ≡ done s h
      → (held_of (content_of j f b) ≡ held_of j ++ arrivals (held_of j) (statements_of (coding_of f) f b)) × (sound_in (content_of j f b) ≡ true)
  pub counted : (s h : ℕ) → answer_of (outcome_of j f b) ≡ done s h
      → (s ≡ length (arrivals (held_of j) (statements_of (coding_of f) f b))) × (s + h ≡ length (statements_of (coding_of f) f b))
  pub read : (s h : ℕ) → answer_of (outcome_of j f b) ≡ done s h → Reads (coding_of f) f b (statements_of (coding_of f) f b)
  pub unchanged : (r : Rejection) → answer_of (outcome_of j f b) ≡ Err r → content_of j f b ≡ j
