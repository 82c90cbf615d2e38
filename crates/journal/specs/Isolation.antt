-- ONE ESTATE'S BANK TROUBLE IS NOBODY ELSE'S, over any two functions that open a journal and deliver to it.
use Rattle.std.specs.Prelude.{◌≡◌, true, List, ℕ, ◌≤◌, length}
use Rattle.framing.specs.Files.{All}
use Rattle.grammar.specs.declared.Key.{Key}
use Rattle.grammar.specs.Statements.{Statement}
use Rattle.journal_layout.specs.Chains.{of_account}
use Rattle.journal_layout.specs.Layout.{is_length, Journal}
use Rattle.journal.specs.Series.{Deliver, after}
use Rattle.journal.specs.Runs.{Sent, Named, Apart, events_of, for_account, answers_of, answers_for, HadRoom}

-- The account k has the same of the run R on the journal i as of the run S on the journal j: each delivery for it has the same answer, and its held statements are the same, in the same order.
pub record SameFor (D : Deliver) (k : Key) (i : List ℕ) (R : List Sent) (j : List ℕ) (S : List Sent) : Type 0 where
  pub answers : answers_for D k i R ≡ answers_for D k j S
  pub held : (P Q : List Statement) → Journal (after D i (events_of R)) P → Journal (after D j (events_of S)) Q → of_account k P ≡ of_account k Q

pub record Isolation (O : List ℕ → List ℕ) (D : Deliver) : Type 0 where
  -- AS ASKED. Two runs of deliveries alone, from freshly opened journals of equal size. A file that the check accepts holds only the named account's statements. The deliveries named as this account's are the same in the same order, and no answer is 23 or 24 in either run.
  pub asked : (k : Key) (R S : List Sent) → Named R → Named S → for_account k R ≡ for_account k S → (i j : List ℕ) → length i ≡ length j
      → All HadRoom (answers_of D (O i) R) → All HadRoom (answers_of D (O j) S) → SameFor D k (O i) R (O j) S
  -- MORE HOLDS. The two journals may have any two right lengths, others' files may hold anything but this account's statements, and others' answers may be 23 or 24.
  pub isolated : (k : Key) (R S : List Sent) → Apart k R → Apart k S → for_account k R ≡ for_account k S
      → (i j : List ℕ) → is_length (length i) ≡ true → is_length (length j) ≡ true
      → All HadRoom (answers_for D k (O i) R) → All HadRoom (answers_for D k (O j) S) → SameFor D k (O i) R (O j) S
  -- FROM THEN ON. The two need not be freshly opened: any two sound journals do that hold the same statements of the account, whatever was done to them before.
  pub from_then_on : (k : Key) (R S : List Sent) → Apart k R → Apart k S → for_account k R ≡ for_account k S
      → (i j : List ℕ) (P Q : List Statement) → Journal i P → Journal j Q → of_account k P ≡ of_account k Q
      → All HadRoom (answers_for D k i R) → All HadRoom (answers_for D k j S) → SameFor D k i R j S
  -- A JOURNAL OF ITS OWN, as long or longer, gives the account the same: there too it has room.
  pub own_journal : (k : Key) (run : List Sent) → Apart k run → (i j : List ℕ) → is_length (length i) ≡ true → is_length (length j) ≡ true → length i ≤ length j
      → All HadRoom (answers_for D k (O i) run) → SameFor D k (O i) run (O j) (for_account k run)
