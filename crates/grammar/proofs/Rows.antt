-- The records of statements as one row with a rest behind it; what `back` and the counts make of such a row.
use mathlib.Core.Path.{◌≡◌, refl, ◌∙◌, ap}
use mathlib.Core.List.{List, [], ◌∷◌, ◌++◌, map, append_assoc}
use Prim.Native.Nat.{ℕ, ◌+◌}
use native.Mathlib.Omega.{arith}
use lib.ListN.{length}
use lib.IntN.{ℤ}
use Rattle.grammar.specs.declared.Key.{Key}
use Rattle.grammar.specs.Answer.{Counts}
use Rattle.grammar.specs.Record.{Rec, opening, movement, complement, closing, Edition}
use Rattle.grammar.specs.Since.{tally}
use Rattle.grammar.specs.Statements.{Movement, Statement, records_of_movement, records_of_movements, records_of, all_records, complements_in, movements_of, complements_of, counts_of, back_one, back}

-- the 05 of some texts before other records
abbrev pub adds_then : List ℕ → List (List ℕ) → List Rec → List Rec
adds_then e [] l = l
adds_then e (t ∷ ts) l = complement e t ∷ adds_then e ts l

-- they are those that the definition gives
adds_then_lem : (e : List ℕ) (ts : List (List ℕ)) (l : List Rec) → map (complement e) ts ++ l ≡ adds_then e ts l
adds_then_lem e [] l = refl
adds_then_lem e (t ∷ ts) l = ap (λ x. complement e t ∷ x) (adds_then_lem e ts l)

-- `back` gives the texts back
back_adds : (e : List ℕ) (ts : List (List ℕ)) (l : List Rec) {ms : List Movement} {d : ℕ} {a : ℤ} {ss : List Statement}
    → back l ≡ record { complements = []; movements = ms; date = d; balance = a; whole = ss }
    → back (adds_then e ts l) ≡ record { complements = ts; movements = ms; date = d; balance = a; whole = ss }
unfolding back
back_adds e [] l h = h
back_adds e (t ∷ ts) l h = ap (back_one (complement e t)) (back_adds e ts l h)

-- counts and some more
abbrev pub more : ℕ → ℕ → ℕ → Counts → Counts
more x y z c = record { statements = x + c.statements; movements = y + c.movements; complements = z + c.complements }

-- counts are equal where each is
pub counts_path : {c d : Counts} → c.statements ≡ d.statements → c.movements ≡ d.movements → c.complements ≡ d.complements → c ≡ d
counts_path p q r = λ i. record { statements = p i; movements = q i; complements = r i }

-- each text is one complement
tally_adds : (e : List ℕ) (ts : List (List ℕ)) (l : List Rec) → tally (adds_then e ts l) ≡ more 0 0 (length ts) (tally l)
unfolding tally
tally_adds e [] l = counts_path (omega arith) (omega arith) (omega arith)
tally_adds e (t ∷ ts) l = rw (tally_adds e ts l) (counts_path (omega arith) (omega arith) (omega arith))

module _ (E : Edition) where
  -- the records of some movements before other records
  abbrev pub moves_then : Key → List Movement → List Rec → List Rec
  moves_then k [] l = l
  moves_then k (m ∷ ms) l = movement k m.posting ∷ adds_then (E.repeats k m.posting) m.complements (moves_then k ms l)

  -- they are those that the definition gives
  moves_then_lem : (k : Key) (ms : List Movement) (l : List Rec) → records_of_movements E k ms ++ l ≡ moves_then k ms l
  unfolding records_of_movements records_of_movement
  moves_then_lem k [] l = refl
  moves_then_lem k (m ∷ ms) l =
      let e = E.repeats k m.posting in
      ap (λ x. movement k m.posting ∷ x)
      (append_assoc (map (complement e) m.complements) (records_of_movements E k ms) l
      ∙ rw (moves_then_lem k ms l) (adds_then_lem e m.complements (moves_then k ms l)))

  -- the records of a statement before those of others
  pub all_cons : (s : Statement) (ss : List Statement)
      → all_records E (s ∷ ss)
      ≡ opening s.key s.old_date s.old_balance
      ∷ moves_then s.key s.movements (closing s.key s.new_date s.new_balance ∷ all_records E ss)
  unfolding all_records records_of
  all_cons s ss =
      ap (λ l. opening s.key s.old_date s.old_balance ∷ l)
      (append_assoc (records_of_movements E s.key s.movements) (closing s.key s.new_date s.new_balance ∷ []) (all_records E ss)
      ∙ moves_then_lem s.key s.movements _)

  -- `back` gives the movements and the new balance back
  back_moves : (k : Key) (ms : List Movement) (d : ℕ) (a : ℤ) (l : List Rec)
      → back (moves_then k ms (closing k d a ∷ l)) ≡ record { complements = []; movements = ms; date = d; balance = a; whole = (back l).whole }
  unfolding back
  back_moves k [] d a l = refl
  back_moves k (m ∷ ms) d a l =
      ap (back_one (movement k m.posting)) (back_adds (E.repeats k m.posting) m.complements _ (back_moves k ms d a l))

  -- `back` gives the statements back
  pub back_all : (ss : List Statement) → (back (all_records E ss)).whole ≡ ss
  unfolding back all_records
  back_all [] = refl
  back_all (s ∷ ss) =
      rw (all_cons s ss, back_moves s.key s.movements s.new_date s.new_balance (all_records E ss)) (ap (λ l. s ∷ l) (back_all ss))

  -- the counts of the movements
  tally_moves : (k : Key) (ms : List Movement) (l : List Rec) → tally (moves_then k ms l) ≡ more 0 (length ms) (complements_in ms) (tally l)
  unfolding tally complements_in
  tally_moves k [] l = counts_path (omega arith) (omega arith) (omega arith)
  tally_moves k (m ∷ ms) l =
      rw (tally_adds (E.repeats k m.posting) m.complements (moves_then k ms l), tally_moves k ms l)
      (counts_path (omega arith) (omega arith) (omega arith))

  -- the counts of the records of statements are those of the statements
  pub tally_all : (ss : List Statement) → tally (all_records E ss) ≡ counts_of ss
  unfolding all_records tally movements_of complements_of
  tally_all [] = refl
  tally_all (s ∷ ss) =
      rw (all_cons s ss)
      (tally_moves s.key s.movements _
      ∙ ap (λ c. more 0 (length s.movements) (complements_in s.movements)
      (record { statements = 1 + c.statements; movements = c.movements; complements = c.complements })) (tally_all ss)
      ∙ counts_path (omega arith) (omega arith) (omega arith))
