-- The test of the rows in one pass: what it gives, and when it is passed.
use mathlib.Core.Path.{◌≡◌, refl, sym, ap, ◌∙◌}
use Rattle.std.specs.Prelude.{Option, Some, None}
use mathlib.Core.Bool.{Bool, true, false, ◌&&◌, false≢true}
use mathlib.Core.List.{List, [], ◌∷◌}
use Prim.Native.Nat.{ℕ, ◌+◌, ◌*◌, ◌≤◌}
use native.Mathlib.Nat.{add-mul, add-zero}
use native.Mathlib.Omega.{arith}
use lib.Dec.{leb}
use lib.ListN.{length, drop}
use lib.IntN.{nat_abs}
use lib.Seq.{drop-drop}
use borrow.Author.Tests.{leb-true, le-leb}
use Rattle.zones.specs.Choice.{pick}
use Rattle.zones.specs.Class.{digit, alnum, blank, permitted, flag}
use Rattle.zones.proofs.Bools.{and_left, and_right, both}
use Rattle.amounts.specs.Amounts.{has_amount, most_amount}
use Rattle.amounts.proofs.Whole.{abs_add}
use Rattle.dates.specs.Days.{is_day}
use Rattle.layouts.specs.Zone.{text, either, byte, number, holds}
use Rattle.framing.specs.Files.{chunks}
use Rattle.framing.proofs.Cuts.{length_chunks}
use Rattle.grammar.specs.Statements.{plus, sizes}
use Rattle.records.specs.July.{text_size, most_in_statement}
use Rattle.fields.specs.declared.Movement.{Movement}
use Rattle.contents.specs.declared.Head.{Head}
use Rattle.writing.specs.Written.{key_holds, balance_holds, movement_holds, posting_holds}
use Rattle.writer.specs.declared.Tally.{Tally}
use Rattle.writer.specs.Values.{movements_from, counted_in}
use Rattle.writer.specs.Test.{texts_hold, begun, grown, booked_within, most_balance, reckoned, room_for, tally_of, tallied, complete, completed, carries}
use Rattle.writer.proofs.Texts.{Fine, texts_fine, texts_hold_lem}

-- a row that can be written, with the texts that stand first in cs
pub record FineRow (h : Head) (m : Movement) (cs : List ℕ) : Type 0 where
  pub holds : movement_holds h.key m ≡ true
  pub within : booked_within h m ≡ true
  pub texts : Fine false (chunks text_size m.complements cs)

abbrev pub FineRows : Head → List Movement → List ℕ → Type 0
FineRows h [] cs = Unit {0}
FineRows h (m ∷ ms) cs = FineRow h m cs × FineRows h ms (drop (m.complements * text_size) cs)

-- a row that was counted
record Counted (h : Head) (s : Tally) (m : Movement) (cs : List ℕ) : Type 0 where
  fine : FineRow h m (drop s.from cs)
  inside : s.from + m.complements * text_size ≤ length cs
  next : tally_of h s m cs ≡ Some (grown s m)

counted : (h : Head) (s : Tally) (m : Movement) (cs : List ℕ) {t : Tally} → tally_of h s m cs ≡ Some t → Counted h s m cs
unfolding tally_of
counted h s m cs {t} e =
    by (movement_holds h.key m && (booked_within h m && reckoned s m (length cs))) (room_for s m (length cs))
    (texts_hold true false (chunks text_size m.complements (drop s.from cs))) refl refl refl e
  where
    by : (a b c : Bool) → (movement_holds h.key m && (booked_within h m && reckoned s m (length cs))) ≡ a → room_for s m (length cs) ≡ b
        → texts_hold true false (chunks text_size m.complements (drop s.from cs)) ≡ c
        → pick a (pick b (pick c (Some (grown s m)) None) None) None ≡ Some t → Counted h s m cs
    by false b c p q r g = cc
    by true false c p q r g = cc
    by true true false p q r g = cc
    by true true true p q r g =
        let v = and_right (movement_holds h.key m) _ p in
        record {
          fine =
              record {
                holds = and_left (movement_holds h.key m) _ p;
                within = and_left (booked_within h m) _ v;
                texts = (texts_fine true false (chunks text_size m.complements (drop s.from cs)) r).1;
              };
          inside = leb-true _ _ (and_right (leb (s.records + 1 + m.complements) most_in_statement) _ q);
          next = rw (p, q, r);
        }

-- what the rows give where all fit
abbrev pub after : Tally → List Movement → List ℕ → Tally
after s rows cs =
    record {
      records = s.records + sizes (movements_from rows (drop s.from cs));
      balance = plus s.balance (movements_from rows (drop s.from cs));
      from = s.from + counted_in rows * text_size;
    }

tally_path : {a b : Tally} → a.records ≡ b.records → a.balance ≡ b.balance → a.from ≡ b.from → a ≡ b
tally_path {a} {b} p q r = rw (p, q, r)

after_none : (s : Tally) (cs : List ℕ) → s ≡ after s [] cs
unfolding movements_from sizes plus counted_in
after_none s cs = tally_path (sym (add-zero s.records)) refl (omega arith)

after_more : (s : Tally) (m : Movement) (ms : List Movement) (cs : List ℕ) → after (grown s m) ms cs ≡ after s (m ∷ ms) cs
unfolding movements_from sizes plus counted_in
after_more s m ms cs =
    let d : drop (s.from + m.complements * text_size) cs ≡ drop (m.complements * text_size) (drop s.from cs) = sym (drop-drop (m.complements * text_size) s.from cs) in
    let n = length_chunks text_size m.complements (drop s.from cs) in
    rw d (tally_path (omega (arith, n)) refl (omega (arith, add-mul m.complements (counted_in ms) text_size)))

-- rows that were all counted
pub record Run (h : Head) (s : Tally) (rows : List Movement) (cs : List ℕ) : Type 0 where
  pub fine : FineRows h rows (drop s.from cs)
  pub end : tallied h (Some s) rows cs ≡ Some (after s rows cs)

pub some_tally : (h : Head) (u : Option Tally) (rows : List Movement) (cs : List ℕ) {t : Tally} → tallied h u rows cs ≡ Some t → (v : Tally) × (u ≡ Some v)
unfolding tallied
some_tally h None rows cs e = cc
some_tally h (Some v) rows cs e = (v, refl)

pub run : (h : Head) (s : Tally) (rows : List Movement) (cs : List ℕ) {t : Tally} → tallied h (Some s) rows cs ≡ Some t → Run h s rows cs
unfolding tallied
run h s [] cs e = record { fine = tt; end = ap Some (after_none s cs) }
run h s (m ∷ ms) cs {t} e =
    let f : tallied h (tally_of h s m cs) ms cs ≡ Some t = e in
    let c = counted h s m cs (some_tally h (tally_of h s m cs) ms cs f).1 in
    let i = run h (grown s m) ms cs (rw c.next at f) in
    let d : drop (s.from + m.complements * text_size) cs ≡ drop (m.complements * text_size) (drop s.from cs) = sym (drop-drop (m.complements * text_size) s.from cs) in
    record {
      fine = (c.fine, rw d at i.fine);
      end = ap (λ u. tallied h u ms cs) c.next ∙ i.end ∙ ap Some (after_more s m ms cs);
    }

-- a row that can be written has an amount
pub row_amount : (h : Head) (m : Movement) → movement_holds h.key m ≡ true → nat_abs m.amount ≤ most_amount
unfolding posting_holds has_amount
row_amount h m e =
    let a = and_right (key_holds h.key) _ e in
    let b = and_right (holds 4 (text permitted) m.internal) _ a in
    let c = and_right (holds 2 (text alnum) m.code) _ b in
    let d = and_right (is_day m.booked) _ c in
    let f = and_right (holds 2 (either digit blank) m.reject) _ d in
    let g = and_right (is_day m.value) _ f in
    let i = and_right (holds 31 (text permitted) m.label) _ g in
    let j = and_right (holds 7 number m.entry) _ i in
    let k = and_right (holds 1 (byte flag) m.exempt) _ j in
    let l = and_right (holds 1 (byte flag) m.unavailable) _ k in
    leb-true (nat_abs m.amount) most_amount (and_left (has_amount m.amount) _ l)

-- the balance stays small: each record adds an amount at most
pub record Small (s : Tally) : Type 0 where
  pub balance : nat_abs s.balance ≤ most_amount * s.records

grows : (h : Head) (s : Tally) (m : Movement) (cs : List ℕ) → FineRow h m (drop s.from cs) → s.records + 1 + m.complements ≤ most_in_statement
    → s.from + m.complements * text_size ≤ length cs → Small s → tally_of h s m cs ≡ Some (grown s m)
unfolding tally_of
grows h s m cs r n l b =
    let z : nat_abs s.balance ≤ most_balance = omega (arith, b.balance) in
    let k : reckoned s m (length cs) ≡ true =
    both (both (le-leb s.records most_in_statement (omega arith)) (le-leb m.complements most_in_statement (omega arith)))
    (both (le-leb (nat_abs s.balance) most_balance z) (le-leb s.from (length cs) (omega arith))) in
    let t : (movement_holds h.key m && (booked_within h m && reckoned s m (length cs))) ≡ true = both r.holds (both r.within k) in
    let u : room_for s m (length cs) ≡ true = both (le-leb _ _ n) (le-leb _ _ l) in
    rw (t, u, texts_hold_lem true false (chunks text_size m.complements (drop s.from cs)) refl r.texts)

-- rows that can all be written pass
pub passes : (h : Head) (s : Tally) (rows : List Movement) (cs : List ℕ) → FineRows h rows (drop s.from cs)
    → s.records + sizes (movements_from rows (drop s.from cs)) ≤ most_in_statement → s.from + counted_in rows * text_size ≤ length cs → Small s
    → tallied h (Some s) rows cs ≡ Some (after s rows cs)
unfolding tallied movements_from sizes counted_in
passes h s [] cs r n l b = ap Some (after_none s cs)
passes h s (m ∷ ms) cs r n l b =
    let d : drop (s.from + m.complements * text_size) cs ≡ drop (m.complements * text_size) (drop s.from cs) = sym (drop-drop (m.complements * text_size) s.from cs) in
    let q = length_chunks text_size m.complements (drop s.from cs) in
    let w = add-mul m.complements (counted_in ms) text_size in
    let g = grows h s m cs r.0 (omega (arith, n, q)) (omega (arith, l, w)) b in
    let v : FineRows h ms (drop (s.from + m.complements * text_size) cs) = rw d r.1 in
    let x : s.records + 1 + m.complements + sizes (movements_from ms (drop (s.from + m.complements * text_size) cs)) ≤ most_in_statement = rw d (omega (arith, n, q)) in
    let a = row_amount h m r.0.holds in
    ap (λ u. tallied h u ms cs) g
    ∙ passes h (grown s m) ms cs v x (omega (arith, l, w)) (record { balance = omega (arith, b.balance, abs_add s.balance m.amount, a) })
    ∙ ap Some (after_more s m ms cs)

-- the tally before the rows
abbrev pub first : Head → Tally
first h = record { records = 2; balance = h.old_balance; from = 0 }

-- values that pass the test
pub record Passed (h : Head) (rows : List Movement) (cs : List ℕ) : Type 0 where
  pub old : balance_holds h.key h.old_date h.old_balance ≡ true
  pub new : balance_holds h.key h.new_date h.new_balance ≡ true
  pub dates : h.old_date ≤ h.new_date
  pub fine : FineRows h rows cs
  pub end : tallied h (begun h) rows cs ≡ Some (after (first h) rows cs)
  pub complete : complete h (after (first h) rows cs) (length cs) ≡ true

begins : (h : Head) {t : Tally} → begun h ≡ Some t → (balance_holds h.key h.old_date h.old_balance && (balance_holds h.key h.new_date h.new_balance && leb h.old_date h.new_date)) ≡ true
unfolding begun
begins h {t} e = by (balance_holds h.key h.old_date h.old_balance && (balance_holds h.key h.new_date h.new_balance && leb h.old_date h.new_date)) refl e
  where
    by : (x : Bool) → (balance_holds h.key h.old_date h.old_balance && (balance_holds h.key h.new_date h.new_balance && leb h.old_date h.new_date)) ≡ x → pick x (Some (first h)) None ≡ Some t
        → (balance_holds h.key h.old_date h.old_balance && (balance_holds h.key h.new_date h.new_balance && leb h.old_date h.new_date)) ≡ true
    by true p q = p
    by false p q = cc

pub begins_first : (h : Head) → (balance_holds h.key h.old_date h.old_balance && (balance_holds h.key h.new_date h.new_balance && leb h.old_date h.new_date)) ≡ true → begun h ≡ Some (first h)
unfolding begun
begins_first h e = rw e

pub passed : (h : Head) (rows : List Movement) (cs : List ℕ) → carries h rows cs ≡ true → Passed h rows cs
unfolding carries completed
passed h rows cs e = by (tallied h (begun h) rows cs) refl e
  where
    by : (u : Option Tally) → tallied h (begun h) rows cs ≡ u → completed h u (length cs) ≡ true → Passed h rows cs
    by None p q = absurd (false≢true q)
    by (Some t) p q =
        let b = begins h (some_tally h (begun h) rows cs p).1 in
        let f = begins_first h b in
        let c = and_right (balance_holds h.key h.old_date h.old_balance) _ b in
        let r = run h (first h) rows cs (rw f at p) in
        let z : tallied h (begun h) rows cs ≡ Some (after (first h) rows cs) = ap (λ u. tallied h u rows cs) f ∙ r.end in
        record {
          old = and_left (balance_holds h.key h.old_date h.old_balance) _ b;
          new = and_left (balance_holds h.key h.new_date h.new_balance) _ c;
          dates = leb-true h.old_date h.new_date (and_right (balance_holds h.key h.new_date h.new_balance) _ c);
          fine = r.fine;
          end = z;
          complete = rw z at e;
        }
