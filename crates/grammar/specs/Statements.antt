-- Statements as values, which of them are valid, and the records they are written as.
use Rattle.std.specs.Prelude.{◌≡◌, List, [], ◌∷◌, ◌++◌, map, ℕ, ◌+◌, ◌≤◌, length, ℤ, pos, ◌+ℤ◌}
use Rattle.zones.specs.Choice.{pick}
use Rattle.framing.specs.Files.{All}
use Rattle.grammar.specs.declared.Key.{Key}
use Rattle.grammar.specs.Answer.{Counts}
use Rattle.grammar.specs.Record.{Posting, Rec, opening, movement, complement, closing, Edition}

-- a 04 with the texts of its 05: qualifier and information, 73 bytes each
pub record Movement : Type 0 where
  pub posting : Posting
  pub complements : List (List ℕ)

-- the account key, old date and balance of its 01, its movements, new date and balance of its 07
pub record Statement : Type 0 where
  pub key : Key
  pub old_date : ℕ
  pub old_balance : ℤ
  pub movements : List Movement
  pub new_date : ℕ
  pub new_balance : ℤ

-- a balance after some movements
unfoldable pub plus : ℤ → List Movement → ℤ
plus z [] = z
plus z (m ∷ ms) = plus (z +ℤ m.posting.amount) ms

-- the number of records of some movements
unfoldable pub sizes : List Movement → ℕ
sizes [] = 0
sizes (m ∷ ms) = 1 + length m.complements + sizes ms

module _ (E : Edition) where
  -- how many of some texts are an MMO
  unfoldable pub mmos : List (List ℕ) → ℕ
  mmos [] = 0
  mmos (t ∷ ts) = pick (E.is_mmo t) 1 0 + mmos ts

  -- The booking date is at or after the old balance date and at or before the new one. A movement has at most one MMO.
  pub record ValidMovement (from to : ℕ) (m : Movement) : Type 0 where
    pub after : from ≤ m.posting.booked
    pub before : m.posting.booked ≤ to
    pub single : mmos m.complements ≤ 1

  -- The new balance date is at or after the old one. Old balance plus all 04 amounts equals new balance. The records are not too many.
  pub record Valid (s : Statement) : Type 0 where
    pub dates : s.old_date ≤ s.new_date
    pub movements : All (ValidMovement s.old_date s.new_date) s.movements
    pub sum : plus s.old_balance s.movements ≡ s.new_balance
    pub short : sizes s.movements + 2 ≤ E.most_in_statement

  -- one 04 followed by its 05
  unfoldable pub records_of_movement : Key → Movement → List Rec
  records_of_movement k m = movement k m.posting ∷ map (complement (E.repeats k m.posting)) m.complements

  unfoldable pub records_of_movements : Key → List Movement → List Rec
  records_of_movements k [] = []
  records_of_movements k (m ∷ ms) = records_of_movement k m ++ records_of_movements k ms

  -- one 01, then the movements, then one 07
  unfoldable pub records_of : Statement → List Rec
  records_of s =
      opening s.key s.old_date s.old_balance
      ∷ (records_of_movements s.key s.movements ++ (closing s.key s.new_date s.new_balance ∷ []))

  -- the records of some statements, one after another
  unfoldable pub all_records : List Statement → List Rec
  all_records [] = []
  all_records (s ∷ ss) = records_of s ++ all_records ss

unfoldable pub complements_in : List Movement → ℕ
complements_in [] = 0
complements_in (m ∷ ms) = length m.complements + complements_in ms

unfoldable pub movements_of : List Statement → ℕ
movements_of [] = 0
movements_of (s ∷ ss) = length s.movements + movements_of ss

unfoldable pub complements_of : List Statement → ℕ
complements_of [] = 0
complements_of (s ∷ ss) = complements_in s.movements + complements_of ss

-- The check answers the numbers of statements, movements and complements.
abbrev pub counts_of : List Statement → Counts
counts_of ss = record { statements = length ss; movements = movements_of ss; complements = complements_of ss }

-- The records read from the last to the first: complements whose 04 is still to come, movements and new balance whose 01 is still to come,
-- and the statements after them.
pub record Back : Type 0 where
  pub complements : List (List ℕ)
  pub movements : List Movement
  pub date : ℕ
  pub balance : ℤ
  pub whole : List Statement

abbrev pub back_one : Rec → Back → Back
back_one (opening k d a) b =
    record {
      complements = [];
      movements = [];
      date = 0;
      balance = pos 0;
      whole =
          record {
            key = k;
            old_date = d;
            old_balance = a;
            movements = b.movements;
            new_date = b.date;
            new_balance = b.balance;
          } ∷ b.whole;
    }
back_one (movement k p) b =
    record {
      complements = [];
      movements = record { posting = p; complements = b.complements } ∷ b.movements;
      date = b.date;
      balance = b.balance;
      whole = b.whole;
    }
back_one (complement e t) b =
    record {
      complements = t ∷ b.complements;
      movements = b.movements;
      date = b.date;
      balance = b.balance;
      whole = b.whole;
    }
back_one (closing k d a) b =
    record { complements = []; movements = []; date = d; balance = a; whole = b.whole }

unfoldable pub back : List Rec → Back
back [] = record { complements = []; movements = []; date = 0; balance = pos 0; whole = [] }
back (r ∷ rs) = back_one r (back rs)
