-- A sound journal as it was while a statement had to begin on the very day of the last new date. No journal is judged by it any more: `proofs/Former.antt` shows that each such journal is sound.
use Rattle.std.specs.Prelude.{◌≡◌, List, [], ◌∷◌, ℕ, ◌≤◌, length}
use Rattle.framing.specs.Files.{All}
use Rattle.grammar.specs.declared.Key.{Key}
use Rattle.grammar.specs.Statements.{Statement}
use Rattle.grammar.specs.Files.{Writable}
use Rattle.records.specs.July.{july}
use Rattle.entries.specs.Entries.{most_entries}
use Rattle.journal_layout.specs.Chains.{of_account, Distinct}
use Rattle.journal_layout.specs.Layout.{most_lines, lines_of, journal_of}

-- the link as it was: same balance, same date
pub record FormerLinks (s t : Statement) : Type 0 where
  pub date : s.new_date ≡ t.old_date
  pub balance : s.new_balance ≡ t.old_balance

abbrev pub FormerChained : List Statement → Type 0
FormerChained [] = Unit
FormerChained (s ∷ []) = Unit
FormerChained (s ∷ t ∷ ts) = FormerLinks s t × FormerChained (t ∷ ts)

-- the bytes j are the layout of the statements ss, each account's in a chain as it was
pub record FormerJournal (j : List ℕ) (ss : List Statement) : Type 0 where
  pub lines : ℕ
  pub most : lines ≤ most_lines
  pub layout : j ≡ journal_of lines ss
  pub few : length ss ≤ most_entries
  pub room : lines_of ss ≤ lines
  pub alone : All (Writable july) ss
  pub distinct : Distinct ss
  pub chained : (k : Key) → FormerChained (of_account k ss)
