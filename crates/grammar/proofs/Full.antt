-- From the statements to the records: the row of valid statements is clean and ends closed.
use mathlib.Core.Path.{◌≡◌, refl, ap}
use mathlib.Core.Bool.{Bool, true, false, not, ◌&&◌, ◌||◌}
use mathlib.Core.Option.{Option, none, some}
use mathlib.Core.List.{List, [], ◌∷◌}
use Prim.Native.Nat.{ℕ, ◌+◌, ◌<◌, ◌≤◌}
use native.Mathlib.Omega.{arith}
use lib.ListN.{length}
use lib.IntN.{ℤ}
use borrow.Author.Tests.{le-ltb, lt-leb}
use Rattle.zones.proofs.Copies.{equal_same}
use Rattle.framing.specs.Files.{All}
use Rattle.grammar.specs.Answer.{Counts}
use Rattle.grammar.specs.Machine.{judge_of}
use Rattle.grammar.specs.Record.{Posting, Rec, movement, complement, closing, Edition}
use Rattle.grammar.specs.Rules.{Open, Current, Mode, out, within, out_of_place, differs, misdated, unsummed, begun, grown, sized, counted, second_mmo, too_long, next, recs}
use Rattle.grammar.specs.Statements.{Movement, Statement, plus, sizes, mmos, ValidMovement, Valid, all_records}
use Rattle.grammar.proofs.Tests.{same_key_self, same_amount_self}
use Rattle.grammar.proofs.Runs.{Ran}
use Rattle.grammar.proofs.Quiet.{Quiet, of_quiet}
use Rattle.grammar.proofs.Rows.{adds_then, moves_then, all_cons}
use Rattle.grammar.proofs.Sound.{bit, at}

-- at most one MMO: no second one now
not_both : (a b : Bool) (n : ℕ) → bit a + (bit b + n) ≤ 1 → (a && b) ≡ false
not_both true true n h = absurd (omega arith)
not_both true false n h = refl
not_both false b n h = refl

-- at most one MMO: none later where one is seen
or_bit : (a b : Bool) (n : ℕ) → bit a + (bit b + n) ≤ 1 → bit (a || b) + n ≤ 1
or_bit true b n h = omega arith
or_bit false b n h = omega arith

module _ (E : Edition) where
  -- the row is clean from this mode on and ends closed
  pub record Fits (m : Mode) (rs : List Rec) : Type 0 where
    pub at_any : (c : Counts) → Ran (recs E) (at c m) rs

  -- one record more, to which no rule applies
  on : {m : Mode} {r : Rec} {rs : List Rec} → Quiet E m r → Fits (next E m r) rs → Fits m (r ∷ rs)
  unfolding judge_of
  on {m} {r} q f =
      record { at_any = λ c. let g = f.at_any (counted c r) in record { clean = (of_quiet E m r q, g.clean); closed = g.closed } }

  module _ (o : Open) (short : o.size < E.most_in_statement) where
    -- no rule applies to a 04 of the key, not before the old date
    quiet_movement : (x : Option Current) (p : Posting) → o.old ≤ p.booked → Quiet E (within o x) (movement o.key p)
    unfolding out_of_place differs second_mmo misdated unsummed too_long
    quiet_movement none p h =
        record { place = refl; same = ap not (same_key_self o.key); single = refl; dated = le-ltb _ _ h; summed = refl; short = lt-leb _ _ short }
    quiet_movement (some u) p h =
        record { place = refl; same = ap not (same_key_self o.key); single = refl; dated = le-ltb _ _ h; summed = refl; short = lt-leb _ _ short }

    -- nor to a 07 of the key with the right date and balance
    quiet_closing : (x : Option Current) (d : ℕ) (a : ℤ) → o.latest ≤ d → o.balance ≡ a → Quiet E (within o x) (closing o.key d a)
    unfolding out_of_place differs second_mmo misdated unsummed too_long
    quiet_closing none d a h e =
        record {
          place = refl;
          same = ap not (same_key_self o.key);
          single = refl;
          dated = le-ltb _ _ h;
          summed = rw (← e) (ap not (same_amount_self o.balance));
          short = lt-leb _ _ short;
        }
    quiet_closing (some u) d a h e =
        record {
          place = refl;
          same = ap not (same_key_self o.key);
          single = refl;
          dated = le-ltb _ _ h;
          summed = rw (← e) (ap not (same_amount_self o.balance));
          short = lt-leb _ _ short;
        }

    -- nor to a 05 that repeats its 04 and is no second MMO
    quiet_complement : (u : Current) (t : List ℕ) → (u.seen && E.is_mmo t) ≡ false → Quiet E (within o (some u)) (complement u.repeated t)
    unfolding out_of_place differs second_mmo misdated unsummed too_long
    quiet_complement u t p =
        record { place = refl; same = ap not (equal_same u.repeated); single = p; dated = refl; summed = refl; short = lt-leb _ _ short }

  -- the complements of a movement, whatever comes behind them
  full_adds : (ts : List (List ℕ)) (o : Open) (u : Current) (l : List Rec) → bit u.seen + mmos E ts ≤ 1 → o.size + length ts ≤ E.most_in_statement
      → ((n : ℕ) (x : Option Current) → n ≡ o.size + length ts → Fits (within (sized n o) x) l)
      → Fits (within o (some u)) (adds_then u.repeated ts l)
  unfolding mmos
  full_adds [] o u l p q f = f o.size (some u) (omega arith)
  full_adds (t ∷ ts) o u l p q f =
      on (quiet_complement o (omega arith) u t (not_both u.seen (E.is_mmo t) (mmos E ts) p))
      (full_adds ts (sized (o.size + 1) o) (record { repeated = u.repeated; seen = u.seen || E.is_mmo t }) l
      (or_bit u.seen (E.is_mmo t) (mmos E ts) p) (omega arith) (λ n x e. f n x (omega arith)))

  -- the movements of a statement and its end
  full_moves : (ms : List Movement) (o : Open) (x : Option Current) (d : ℕ) (a : ℤ) (l : List Rec) → All (ValidMovement E o.old d) ms → o.latest ≤ d
      → plus o.balance ms ≡ a → o.size + sizes ms + 1 ≤ E.most_in_statement → Fits out l
      → Fits (within o x) (moves_then E o.key ms (closing o.key d a ∷ l))
  unfolding plus sizes
  full_moves [] o x d a l v p e q f = on (quiet_closing o (omega arith) x d a p e) f
  full_moves (m ∷ ms) o x d a l v p e q f =
      let g = grown o m.posting.booked m.posting.amount in
      on (quiet_movement o (omega arith) x m.posting v.0.after)
      (full_adds m.complements g (record { repeated = E.repeats o.key m.posting; seen = false }) _ (omega (arith, v.0.single)) (omega arith)
      (λ n y z. full_moves ms (sized n g) y d a l v.1 (omega (arith, v.0.before)) e (omega arith) f))

  -- the records of valid statements
  pub full : (ss : List Statement) → All (Valid E) ss → Fits out (all_records E ss)
  unfolding all_records out_of_place differs second_mmo misdated unsummed too_long
  full [] v = record { at_any = λ c. record { clean = tt; closed = refl } }
  full (s ∷ ss) v =
      rw (all_cons E s ss)
      (on (record { place = refl; same = refl; single = refl; dated = refl; summed = refl; short = refl })
      (full_moves s.movements (begun s.key s.old_date s.old_balance) none s.new_date s.new_balance (all_records E ss) v.0.movements
      v.0.dates v.0.sum (omega (arith, v.0.short)) (full ss v.1)))
