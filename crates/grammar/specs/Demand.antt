-- Demand 2 on a check: a file in which each record stands as the writer writes it is accepted exactly if some list of statements, laid out by the rules, gives
-- those bytes; the counts are that list's. Any other file is answered as the file with each record as the writer writes it.
use Rattle.std.specs.Prelude.{◌≡◌, List, ℕ}
use Rattle.framing.specs.declared.Form.{Form}
use Rattle.grammar.specs.Answer.{Counts, Answer, accepted}
use Rattle.grammar.specs.Statements.{Statement, counts_of}
use Rattle.grammar.specs.Files.{Coding, canonical, Gives}

-- Which coding a file has hangs on its form.
pub record Demand2 (C : Form → Coding) (check : Form → List ℕ → Answer) : Type 0 where
  pub accepts : (f : Form) (b : List ℕ) (ss : List Statement) → Gives (C f) f b ss → check f b ≡ accepted (counts_of ss)
  pub only : (f : Form) (b : List ℕ) (c : Counts) → canonical (C f) f b ≡ b → check f b ≡ accepted c → (ss : List Statement) × Gives (C f) f b ss
  pub alike : (f : Form) (b : List ℕ) → check f b ≡ check f (canonical (C f) f b)
