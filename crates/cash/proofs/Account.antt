-- The promise of a sound journal, as the bound of the position takes it.
use mathlib.Core.Path.{◌≡◌, sym, ◌∙◌}
use mathlib.Core.Bool.{true}
use mathlib.Core.List.{List, [], ◌∷◌, ◌++◌, map}
use Prim.Native.Nat.{ℕ, ◌^◌, ◌<◌, ◌≤◌}
use native.Mathlib.Omega.{arith}
use lib.ListN.{length, length-append, length-map}
use lib.IntN.{ℤ, nat_abs, ◌+ℤ◌, +ℤ_idr, +ℤ_assoc}
use Rattle.dates.specs.Days.{is_day}
use Rattle.framing.specs.Files.{All}
use Rattle.grammar.specs.declared.Key.{Key}
use Rattle.grammar.specs.Record.{Rec, complement}
use Rattle.grammar.specs.Statements.{Movement, Statement, plus, sizes, records_of_movement, records_of_movements, records_of}
use Rattle.grammar.specs.Files.{Writable}
use Rattle.records.specs.July.{july, july2004, Holds}
use Rattle.records.proofs.Zones.{opening_small, closing_small, movement_small, movement_day}
use Rattle.journal_layout.specs.Chains.{of_account}
use Rattle.journal_layout.specs.Layout.{lines_of}
use Rattle.journal_layout.proofs.Accounts.{all_account, lines_account}
use Rattle.journal.specs.Arrivals.{movements_in, last_balance}
use Rattle.journal.specs.Promises.{Promise}
use Rattle.fields.specs.declared.Valued.{Valued}
use Rattle.cash.specs.Value.{total, value_at, valued, movements_of}
use Rattle.cash.proofs.Tied.{Small, Tied}
use Rattle.cash.proofs.Bounds.{fits, balance_bound}
use Rattle.cash.proofs.Rows.{last_amount}

-- what is taken of a movement that a record holds
record Sized (m : Movement) : Type 0 where
  small : Small m.posting.amount
  day : is_day m.posting.value ≡ true

-- the records of some movements, and one more
sized : (k : Key) (ms : List Movement) (last : Rec) → All Holds (records_of_movements july2004 k ms ++ (last ∷ [])) → All Sized ms × Holds last
unfolding records_of_movements records_of_movement
sized k [] last a = (tt, a.0)
sized k (m ∷ ms) last a =
    let r = sized k ms last (past (july2004.repeats k m.posting) m.complements _ last a.1) in
    ((record { small = movement_small k m.posting a.0; day = movement_day k m.posting a.0 }, r.0), r.1)
  where
    past : (e : List ℕ) (ts : List (List ℕ)) (xs : List Rec) (last : Rec) → All Holds ((map (complement e) ts ++ xs) ++ (last ∷ [])) → All Holds (xs ++ (last ∷ []))
    past e [] xs last a = a
    past e (t ∷ ts) xs last a = past e ts xs last a.1

record Stated (s : Statement) : Type 0 where
  old : Small s.old_balance
  new : Small s.new_balance
  each : All Sized s.movements

stated : (s : Statement) → Writable july s → Stated s
unfolding records_of
stated s w =
    let r = sized s.key s.movements _ w.ok.1 in
    record { old = opening_small s.key s.old_date s.old_balance w.ok.0; new = closing_small s.key s.new_date s.new_balance r.1; each = r.0 }

all_stated : (ss : List Statement) → All (Writable july) ss → All Stated ss
all_stated [] a = tt
all_stated (s ∷ ss) a = (stated s a.0, all_stated ss a.1)

-- no more movements than lines
movements_sizes : (ms : List Movement) → length ms ≤ sizes ms
unfolding sizes
movements_sizes [] = omega arith
movements_sizes (m ∷ ms) = omega (arith, movements_sizes ms)

movements_lines : (ss : List Statement) → length (movements_in ss) ≤ lines_of ss
unfolding movements_in lines_of
movements_lines [] = omega arith
movements_lines (s ∷ ss) = rw (length-append s.movements (movements_in ss)) (omega (arith, movements_sizes s.movements, movements_lines ss))

all_append : (ms ns : List Movement) → All Sized ms → All Sized ns → All Sized (ms ++ ns)
all_append [] ns a b = b
all_append (m ∷ ms) ns a b = (a.0, all_append ms ns a.1 b)

all_sized : (ss : List Statement) → All Stated ss → All Sized (movements_in ss)
unfolding movements_in
all_sized [] a = tt
all_sized (s ∷ ss) a = all_append s.movements (movements_in ss) a.0.each (all_sized ss a.1)

smalls : (ms : List Movement) → All Sized ms → All (λ (m : Valued). Small m.amount) (map valued ms)
smalls [] a = tt
smalls (m ∷ ms) a = (a.0.small, smalls ms a.1)

days : (ms : List Movement) → All Sized ms → All (λ (m : Valued). is_day m.value ≡ true) (map valued ms)
days [] a = tt
days (m ∷ ms) a = (a.0.day, days ms a.1)

-- a balance after some movements
plus_total : (z : ℤ) (ms : List Movement) → plus z ms ≡ z +ℤ total (map valued ms)
unfolding plus total
plus_total z [] = sym (+ℤ_idr z)
plus_total z (m ∷ ms) = plus_total (z +ℤ m.posting.amount) ms ∙ +ℤ_assoc z m.posting.amount (total (map valued ms))

last_small : (s : Statement) (ss : List Statement) → All Stated (s ∷ ss) → Small (last_balance s ss)
last_small s [] a = a.0.new
last_small s (t ∷ ts) a = last_small t ts a.1

module _ {j : List ℕ} {ss : List Statement} (p : Promise j ss) (k : Key) where
  -- the value dates of an account are days
  pub account_days : All (λ (m : Valued). is_day m.value ≡ true) (movements_of k ss)
  unfolding movements_of
  account_days = days (movements_in (of_account k ss)) (all_sized (of_account k ss) (all_stated (of_account k ss) (all_account (Writable july) k ss p.alone)))

  -- and its amounts are tied by its balances
  pub account_tied : (s : Statement) (rest : List Statement) → of_account k ss ≡ s ∷ rest → Tied s.old_balance (last_balance s rest) (movements_of k ss)
  unfolding movements_of
  account_tied s rest e =
      let a : All Stated (of_account k ss) = all_stated (of_account k ss) (all_account (Writable july) k ss p.alone) in
      let b : All Stated (s ∷ rest) = rw e at a in
      let q : plus s.old_balance (movements_in (s ∷ rest)) ≡ last_balance s rest = rw e at (p.summed k) in
      record {
        opens = b.0.old;
        closes = last_small s rest b;
        each = smalls (movements_in (of_account k ss)) (all_sized (of_account k ss) a);
        few = rw (length-map (movements_in (of_account k ss)) valued) (omega (arith, movements_lines (of_account k ss), lines_account k ss, p.lines));
        tie = rw e (sym (plus_total s.old_balance (movements_in (s ∷ rest))) ∙ q);
      }

  -- So no amount of its position passes 64 bits, and the last is its last balance where no value date is later.
  module _ (s : Statement) (rest : List Statement) (e : of_account k ss ≡ s ∷ rest) where
    pub account_fits : (day : ℕ) → nat_abs (value_at s.old_balance (movements_of k ss) day) < 2 ^ 63
    account_fits day = omega (arith, balance_bound (account_tied s rest e) day, fits)

    pub account_last : (day : ℕ) → All (λ (m : Valued). m.value ≤ day) (movements_of k ss) → value_at s.old_balance (movements_of k ss) day ≡ last_balance s rest
    account_last day a = last_amount day (account_tied s rest e) a
