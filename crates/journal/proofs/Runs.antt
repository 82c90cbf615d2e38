-- What a run of statements leaves: the list held before, and behind it those that are new, in order of first arrival.
use mathlib.Core.Path.{◌≡◌, refl, sym, ◌∙◌}
use mathlib.Core.Bool.{Bool, true, false}
use mathlib.Core.List.{List, [], ◌∷◌, ◌++◌, append_assoc, append-nil}
use Prim.Native.Nat.{ℕ, ◌+◌, ◌-◌, ◌*◌, ◌≤◌}
use native.Mathlib.Omega.{arith}
use lib.Dec.{leb, ltb}
use lib.ListN.{length, length-append}
use Rattle.std.specs.Prelude.{Result, Ok, Err}
use Rattle.zones.specs.Choice.{pick}
use Rattle.framing.specs.Files.{All}
use Rattle.framing.specs.Refusals.{refusal_by}
use Rattle.framing.specs.declared.refusals.Reason.TheVariants.{FullContents, FullJournal}
use Rattle.grammar.specs.Statements.{Statement}
use Rattle.grammar.specs.Files.{Writable}
use Rattle.grammar.specs.Parts.{size_of}
use Rattle.records.specs.July.{record_size, july}
use Rattle.entries.specs.Entries.{most_entries, table_size}
use Rattle.journal_layout.specs.declared.Judgement.{Judgement}
use Rattle.journal_layout.specs.declared.Judgement.TheVariants.{Held, First, After}
use Rattle.journal_layout.specs.Chains.{held_among, last_among, judgement_of, follows_by, follows}
use Rattle.journal_layout.specs.Layout.{most_lines, lines_of, journal_of, Keepable, Journal}
use Rattle.journal_layout.proofs.Chain.{Row, row_snoc, row_distinct, row_chained, row_of}
use Rattle.journal_layout.proofs.Adding.{lines_append, all_append}
use Rattle.journal_layout.proofs.Exact.{one_lines, journal_length}
use Rattle.journal.specs.declared.Verdict.{Verdict}
use Rattle.journal.specs.declared.Verdict.TheVariants.{Hold, Store}
use Rattle.journal.specs.declared.Rejection.{Rejection}
use Rattle.journal.specs.Delivery.{rejection, not_next, verdict_by, verdict_of, delivered, refused, proceed, run}
use Rattle.journal.specs.Arrivals.{arrivals}
use Rattle.journal.proofs.Values.{not_held, has_room}

-- ---- a verdict and what it means

-- what is held is held, and only that
pub held_verdict : (n : ℕ) (hs : List Statement) (s : Statement) (at : ℕ) → held_among s hs ≡ true → verdict_of n hs s at ≡ Ok Hold
unfolding verdict_of judgement_of
held_verdict n hs s at h = rw h

pub hold_held : (n : ℕ) (hs : List Statement) (s : Statement) (at : ℕ) → verdict_of n hs s at ≡ Ok Hold → held_among s hs ≡ true
unfolding verdict_of judgement_of
hold_held n hs s at h = by (held_among s hs) refl h
  where
    by : (t : Bool) → held_among s hs ≡ t
        → verdict_by (pick t Held (last_among s.key First hs)) s.old_date s.old_balance (length hs) (n - lines_of hs) (size_of s) at ≡ Ok Hold → t ≡ true
    by true e g = refl
    by false e g =
        absurd (other (follows_by (last_among s.key First hs) s.old_date s.old_balance) (ltb (length hs) most_entries) (leb (size_of s) (n - lines_of hs))
        (rw (not_held s.key First hs refl) at g))
      where
        other : (b c d : Bool) → pick b (pick c (pick d (Ok Store) (Err (rejection (refusal_by FullJournal at)))) (Err (rejection (refusal_by FullContents at)))) (Err (not_next (last_among s.key First hs) at)) ≡ Ok Hold → ⊥
        other false c d e = let z : ◌≡◌ {A = ℕ} 0 1 = cc in omega arith
        other true false d e = let z : ◌≡◌ {A = ℕ} 0 1 = cc in omega arith
        other true true false e = let z : ◌≡◌ {A = ℕ} 0 1 = cc in omega arith
        other true true true e = let z : ◌≡◌ {A = ℕ} 0 1 = cc in omega arith

-- what is stored is new, and follows
pub store_follows : (n : ℕ) (hs : List Statement) (s : Statement) (at : ℕ) → verdict_of n hs s at ≡ Ok Store → follows s hs ≡ true
unfolding verdict_of
store_follows n hs s at e = by (judgement_of s hs) e
  where
    by : (j : Judgement) → verdict_by j s.old_date s.old_balance (length hs) (n - lines_of hs) (size_of s) at ≡ Ok Store → follows_by j s.old_date s.old_balance ≡ true
    by Held g = absurd (let z : ◌≡◌ {A = ℕ} 0 1 = cc in omega arith)
    by First g = refl
    by (After d b) g = other (follows_by (After d b) s.old_date s.old_balance) g
      where
        other : (t : Bool) → pick t (pick (ltb (length hs) most_entries) (pick (leb (size_of s) (n - lines_of hs)) (Ok Store) (Err (rejection (refusal_by FullJournal at)))) (Err (rejection (refusal_by FullContents at)))) (Err (not_next (After d b) at)) ≡ Ok Store → t ≡ true
        other true g = refl
        other false g = absurd (let z : ◌≡◌ {A = ℕ} 0 1 = cc in omega arith)

pub store_new : (n : ℕ) (hs : List Statement) (s : Statement) (at : ℕ) → verdict_of n hs s at ≡ Ok Store → held_among s hs ≡ false
store_new n hs s at e = by (held_among s hs) refl
  where
    by : (t : Bool) → held_among s hs ≡ t → t ≡ false
    by true h = absurd (let q = sym e ∙ held_verdict n hs s at h in let z : ◌≡◌ {A = ℕ} 0 1 = cc in omega arith)
    by false h = refl

-- ---- what a journal can hold, as the test sees it

pub record Kept (n : ℕ) (ss : List Statement) : Type 0 where
  pub few : length ss ≤ most_entries
  pub room : lines_of ss ≤ n
  pub alone : All (Writable july) ss
  pub row : Row [] ss

pub kept : {n : ℕ} {ss : List Statement} → Keepable n ss → Kept n ss
kept {n} {ss} k = record { few = k.few; room = k.room; alone = k.alone; row = row_of [] ss k.distinct k.chained }

-- with one more that is stored
kept_store : {n : ℕ} {hs : List Statement} {s : Statement} (at : ℕ) → Kept n hs → Writable july s → verdict_of n hs s at ≡ Ok Store → Kept n (hs ++ (s ∷ []))
kept_store {n} {hs} {s} at k w e =
    let r = has_room n hs s at e in
    let a = r.0 in
    let b = r.1 in
    let c = k.room in
    let l = length-append hs (s ∷ []) in
    let m : lines_of (hs ++ (s ∷ [])) ≡ lines_of hs + size_of s = lines_append hs (s ∷ []) ∙ one_lines s (lines_of hs) in
    record {
      few = omega arith;
      room = omega arith;
      alone = all_append (Writable july) hs (s ∷ []) k.alone (w, tt);
      row = row_snoc [] hs s k.row (store_follows n hs s at e);
    }

-- ---- the run

-- what it leaves
pub record Ran (n : ℕ) (hs : List Statement) (stored held : ℕ) (ss L : List Statement) (x y : ℕ) : Type 0 where
  pub list : L ≡ hs ++ arrivals hs ss
  pub stores : x ≡ stored + length (arrivals hs ss)
  pub all : x + y ≡ stored + held + length ss
  pub kept : Kept n L

pub ran : (n : ℕ) (hs : List Statement) (behind stored held : ℕ) (ss : List Statement) {L : List Statement} {x y : ℕ} → Kept n hs → All (Writable july) ss
    → run n hs behind stored held ss ≡ delivered L x y → Ran n hs stored held ss L x y
unfolding run arrivals
ran n hs behind stored held [] {L} {x} {y} k w e =
    let l : hs ≡ L = cc in
    let p : stored ≡ x = cc in
    let q : held ≡ y = cc in
    record { list = sym l ∙ sym (append-nil hs); stores = omega arith; all = omega arith; kept = rw (← l) k }
ran n hs behind stored held (s ∷ ss) {L} {x} {y} k w e =
    by (verdict_of n hs s (behind + 1)) refl e (λ g. ran n hs (behind + size_of s) stored (held + 1) ss k w.1 g)
    (λ v g. ran n (hs ++ (s ∷ [])) (behind + size_of s) (stored + 1) held ss (kept_store (behind + 1) k w.0 v) w.1 g)
  where
    by : (v : Result Verdict Rejection) → verdict_of n hs s (behind + 1) ≡ v
        → proceed v (run n hs (behind + size_of s) stored (held + 1) ss) (run n (hs ++ (s ∷ [])) (behind + size_of s) (stored + 1) held ss) refused
        ≡ delivered L x y
        → (run n hs (behind + size_of s) stored (held + 1) ss ≡ delivered L x y → Ran n hs stored (held + 1) ss L x y)
        → (verdict_of n hs s (behind + 1) ≡ Ok Store → run n (hs ++ (s ∷ [])) (behind + size_of s) (stored + 1) held ss ≡ delivered L x y → Ran n (hs ++ (s ∷ [])) (stored + 1) held ss L x y)
        → Ran n hs stored held (s ∷ ss) L x y
    by (Ok Hold) v g i j =
        let r = i g in
        let h = hold_held n hs s (behind + 1) v in
        record { list = rw h r.list; stores = rw h r.stores; all = let a = r.all in omega arith; kept = r.kept }
    by (Ok Store) v g i j =
        let r = j v g in
        let h = store_new n hs s (behind + 1) v in
        let a = r.all in
        let b = r.stores in
        record {
          list = rw h (r.list ∙ append_assoc hs (s ∷ []) (arrivals (hs ++ (s ∷ [])) ss));
          stores = rw h (omega arith);
          all = omega arith;
          kept = r.kept;
        }
    by (Err r) v g i j = absurd (let z : ◌≡◌ {A = ℕ} 0 1 = cc in omega arith)

-- the layout of what can be held is a journal of it
pub kept_journal : {n : ℕ} {ss : List Statement} → n ≤ most_lines → Kept n ss → Journal (journal_of n ss) ss
unfolding Rattle.journal_layout.specs.Chains.of_account
kept_journal {n} {ss} m k =
    record {
      lines = n;
      most = m;
      layout = refl;
      kept = record { few = k.few; room = k.room; alone = k.alone; distinct = row_distinct [] ss k.row tt; chained = λ x. row_chained x [] ss k.row tt };
    }

-- it is as long as its lines ask for
pub kept_length : {n : ℕ} {ss : List Statement} → n ≤ most_lines → Kept n ss → length (journal_of n ss) ≡ table_size + record_size * n
unfolding kept_journal
kept_length m k = journal_length (kept_journal m k)
