-- Of some statements those of one account: a part of them, and of a journal one that a journal of its own can hold.
use mathlib.Core.Path.{◌≡◌, refl, ap}
use mathlib.Core.Bool.{Bool, true, false}
use mathlib.Core.List.{List, [], ◌∷◌}
use Prim.Native.Nat.{ℕ, ◌≤◌}
use native.Mathlib.Omega.{arith}
use lib.ListN.{length}
use Rattle.zones.specs.Choice.{pick}
use Rattle.framing.specs.Files.{All}
use Rattle.grammar.specs.declared.Key.{Key}
use Rattle.grammar.specs.Record.{same_key}
use Rattle.grammar.specs.Statements.{Statement}
use Rattle.grammar.specs.Files.{Writable}
use Rattle.grammar.proofs.Tests.{same_key_true, same_key_self}
use Rattle.records.specs.July.{july}
use Rattle.bodies.specs.Bodies.{body_of}
use Rattle.journal_layout.specs.Chains.{Chained, of_account, Distinct}
use Rattle.journal_layout.specs.Layout.{most_lines, lines_of, Keepable}

-- what holds of all holds of an account's
pub all_account : (P : Statement → Type 0) (k : Key) (ss : List Statement) → All P ss → All P (of_account k ss)
unfolding of_account
all_account P k [] a = tt
all_account P k (s ∷ ss) a = by (same_key s.key k) (all_account P k ss a.1)
  where
    by : (t : Bool) → All P (of_account k ss) → All P (pick t (s ∷ of_account k ss) (of_account k ss))
    by true b = (a.0, b)
    by false b = b

-- they are no more, and take no more lines
pub few_account : (k : Key) (ss : List Statement) → length (of_account k ss) ≤ length ss
unfolding of_account
few_account k [] = omega arith
few_account k (s ∷ ss) = by (same_key s.key k) (few_account k ss)
  where
    by : (t : Bool) → length (of_account k ss) ≤ length ss → length (pick t (s ∷ of_account k ss) (of_account k ss)) ≤ length (s ∷ ss)
    by true h = omega arith
    by false h = omega arith

pub lines_account : (k : Key) (ss : List Statement) → lines_of (of_account k ss) ≤ lines_of ss
unfolding of_account lines_of
lines_account k [] = omega arith
lines_account k (s ∷ ss) = by (same_key s.key k) (lines_account k ss)
  where
    by : (t : Bool) → lines_of (of_account k ss) ≤ lines_of ss → lines_of (pick t (s ∷ of_account k ss) (of_account k ss)) ≤ lines_of (s ∷ ss)
    by true h = omega arith
    by false h = omega arith

-- no two of them are identical
distinct_account : (k : Key) (ss : List Statement) → Distinct ss → Distinct (of_account k ss)
unfolding of_account
distinct_account k [] d = tt
distinct_account k (s ∷ ss) d = by (same_key s.key k) (distinct_account k ss d.1)
  where
    by : (t : Bool) → Distinct (of_account k ss) → Distinct (pick t (s ∷ of_account k ss) (of_account k ss))
    by true i = (all_account (λ t. body_of s ≡ body_of t → ⊥) k ss d.0, i)
    by false i = i

-- another account has none among them, the same one has all
pub account_of_account : (k l : Key) (ss : List Statement) → of_account l (of_account k ss) ≡ pick (same_key k l) (of_account k ss) []
unfolding of_account
account_of_account k l [] = by (same_key k l)
  where
    by : (t : Bool) → ◌≡◌ {A = List Statement} [] (pick t [] [])
    by true = refl
    by false = refl
account_of_account k l (s ∷ ss) = by (same_key s.key k) refl (account_of_account k l ss)
  where
    own : (t : Bool) → same_key s.key l ≡ t → of_account l (of_account k ss) ≡ pick t (of_account k ss) [] → of_account l (s ∷ of_account k ss) ≡ pick t (s ∷ of_account k ss) []
    own true e i = rw e (ap (λ x. s ∷ x) i)
    own false e i = rw e i

    by : (t : Bool) → same_key s.key k ≡ t → of_account l (of_account k ss) ≡ pick (same_key k l) (of_account k ss) []
        → of_account l (pick t (s ∷ of_account k ss) (of_account k ss)) ≡ pick (same_key k l) (pick t (s ∷ of_account k ss) (of_account k ss)) []
    by true e i = own (same_key k l) (ap (λ x. same_key x l) (same_key_true s.key k e)) i
    by false e i = i

pub account_again : (k : Key) (ss : List Statement) → of_account k (of_account k ss) ≡ of_account k ss
account_again k ss = rw (account_of_account k k ss, same_key_self k)

-- A JOURNAL OF ITS OWN, the longest, can hold them
pub account_kept : {n : ℕ} {ss : List Statement} → n ≤ most_lines → Keepable n ss → (k : Key) → Keepable most_lines (of_account k ss)
account_kept {n} {ss} most g k =
    let r = g.room in
    let f = g.few in
    record {
      few = omega (arith, few_account k ss);
      room = omega (arith, lines_account k ss);
      alone = all_account (Writable july) k ss g.alone;
      distinct = distinct_account k ss g.distinct;
      chained = λ l. rw (account_of_account k l ss) (by (same_key k l));
    }
  where
    by : (t : Bool) → Chained (pick t (of_account k ss) [])
    by true = g.chained k
    by false = tt
