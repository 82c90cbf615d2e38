-- WHAT WAS EXPECTED, in the paper's words: with 22 the new date and the new balance of the account's last statement as the delivery then sees it, those stored earlier from the same file included. In all other answers the two are zero.
use Rattle.std.specs.Prelude.{◌≡◌, true, false, List, [], ◌∷◌, ◌++◌, ℕ, ◌+◌, ℤ, pos}
use Rattle.dates.specs.Days.{is_day}
use Rattle.framing.specs.declared.Form.{Form}
use Rattle.grammar.specs.Statements.{Statement}
use Rattle.grammar.specs.Files.{statements_of}
use Rattle.records.specs.July.{coding_of}
use Rattle.journal_layout.specs.Chains.{held_among, Links, of_account}
use Rattle.journal_layout.specs.Layout.{lines_of}
use Rattle.journal_layout.specs.Test.{held_of}
use Rattle.journal.specs.Arrivals.{arrivals}
use Rattle.journal.specs.Answers.{PaperDelivery}

-- in a file of the statements ss, where hs are held: the statement whose 01 is record `at` does not follow, and the last of its account has this new date and new balance
pub record Unfollowed (hs ss : List Statement) (at date : ℕ) (balance : ℤ) : Type 0 where
  pub statement : Statement
  -- where it stands
  pub before : List Statement
  pub behind : List Statement
  pub stands : ss ≡ before ++ (statement ∷ behind)
  pub record_at : at ≡ lines_of before + 1
  -- the account's last statement: held, or stored earlier from the same file
  pub last : Statement
  pub earlier : List Statement
  pub seen : of_account statement.key (hs ++ arrivals hs before) ≡ earlier ++ (last ∷ [])
  pub date_told : date ≡ last.new_date
  pub balance_told : balance ≡ last.new_balance
  -- it is neither held nor links to that one
  pub new : held_among statement (hs ++ arrivals hs before) ≡ false
  pub breaks : Links last statement → ⊥

-- of an answer: what it says was expected of the file
pub record Expects (j : List ℕ) (f : Form) (b : List ℕ) (p : PaperDelivery) : Type 0 where
  pub with_22 : p.number ≡ 22 → Unfollowed (held_of j) (statements_of (coding_of f) f b) p.at p.expected_date p.expected_balance
  -- a day that exists, so that the date 0 means: no 22
  pub a_day : p.number ≡ 22 → is_day p.expected_date ≡ true
  pub else_zero : (p.number ≡ 22 → ⊥) → (p.expected_date ≡ 0) × (p.expected_balance ≡ pos 0)
