-- The test of values is passed exactly by those that some accepted file reads as.
use mathlib.Core.Path.{◌≡◌, sym, ◌∙◌}
use mathlib.Core.Bool.{true}
use mathlib.Core.List.{List, [], ◌∷◌, map}
use Prim.Native.Nat.{ℕ, ◌+◌, ◌*◌, ◌≤◌}
use native.Mathlib.Omega.{arith}
use lib.Dec.{eqb, leb}
use lib.ListN.{length, drop}
use lib.IntN.{ℤ, nat_abs}
use borrow.Author.Tests.{eqb-true, eq-eqb, leb-true, le-leb}
use Rattle.zones.proofs.Bools.{and_left, and_right, both}
use Rattle.amounts.specs.Amounts.{has_amount, most_amount}
use Rattle.dates.specs.Days.{is_day}
use Rattle.framing.specs.Files.{All, chunks}
use Rattle.grammar.specs.declared.Key.{Key}
use Rattle.grammar.specs.Record.{complement}
use Rattle.grammar.specs.Statements as values
use Rattle.grammar.specs.Statements.{sizes, ValidMovement, Valid, records_of_movement, records_of_movements, records_of}
use Rattle.grammar.proofs.Parts.{length_one}
use Rattle.grammar.proofs.Tests.{same_amount_true, same_amount_self}
use Rattle.records.specs.July.{text_size, most_in_statement, repeats, Holds, july2004}
use Rattle.fields.specs.declared.Movement.{Movement}
use Rattle.contents.specs.declared.Head.{Head}
use Rattle.writing.specs.Written.{posting_of, key_holds, balance_holds, text_holds}
use Rattle.writing.proofs.Held.{opening_holds, closing_holds, movement_holds_lem, text_held, complement_held}
use Rattle.writer.specs.Values.{movements_from, statement_from, counted_in, Carried}
use Rattle.writer.specs.Test.{completed, carries}
use Rattle.writer.proofs.Alls.{all_append, all_left, all_right, all_map, all_unmap}
use Rattle.writer.proofs.Rows.{FineRows, after, first, passed, begins_first, passes}

-- the records of some movements can all be written
abbrev Held : Key → List values.Movement → Type 0
Held k ms = All Holds (records_of_movements july2004 k ms)

abbrev Within : Head → List values.Movement → Type 0
Within h ms = All (ValidMovement july2004 h.old_date h.new_date) ms

balance_small : (k : Key) (d : ℕ) (a : ℤ) → balance_holds k d a ≡ true → nat_abs a ≤ most_amount
unfolding has_amount
balance_small k d a e = leb-true (nat_abs a) most_amount (and_right (is_day d) _ (and_right (key_holds k) _ e))

module _ (h : Head) where
  pub fine_held : (rows : List Movement) (cs : List ℕ) → FineRows h rows cs → Held h.key (movements_from rows cs)
  unfolding movements_from records_of_movements records_of_movement
  fine_held [] cs f = tt
  fine_held (m ∷ ms) cs f =
      let e = repeats h.key (posting_of m) in
      let ts = chunks text_size m.complements cs in (
        sym (movement_holds_lem h.key m) ∙ f.0.holds,
        all_append Holds (map (complement e) ts) _ (all_map (complement e) (λ t. text_holds t ≡ true) Holds (λ t p. complement_held h.key m t f.0.holds p) ts f.0.texts.each)
            (fine_held ms (drop (m.complements * text_size) cs) f.1),
      )

  fine_within : (rows : List Movement) (cs : List ℕ) → FineRows h rows cs → Within h (movements_from rows cs)
  unfolding movements_from
  fine_within [] cs f = tt
  fine_within (m ∷ ms) cs f = (
    record {
      after = leb-true h.old_date m.booked (and_left (leb h.old_date m.booked) _ f.0.within);
      before = leb-true m.booked h.new_date (and_right (leb h.old_date m.booked) _ f.0.within);
      single = omega (arith, f.0.texts.single);
    },
    fine_within ms (drop (m.complements * text_size) cs) f.1,
  )

  held_fine : (rows : List Movement) (cs : List ℕ) → Held h.key (movements_from rows cs) → Within h (movements_from rows cs) → FineRows h rows cs
  unfolding movements_from records_of_movements records_of_movement
  held_fine [] cs o v = tt
  held_fine (m ∷ ms) cs o v =
      let e = repeats h.key (posting_of m) in
      let ts = chunks text_size m.complements cs in (
        record {
          holds = movement_holds_lem h.key m ∙ o.0;
          within = both (le-leb h.old_date m.booked v.0.after) (le-leb m.booked h.new_date v.0.before);
          texts =
              record {
                each = all_unmap (complement e) (λ t. text_holds t ≡ true) Holds (λ t p. text_held e t p) ts (all_left Holds (map (complement e) ts) _ o.1);
                single = omega (arith, v.0.single);
              };
        },
        held_fine ms (drop (m.complements * text_size) cs) (all_right Holds (map (complement e) ts) _ o.1) v.1,
      )

  -- THE TEST: what it says of the values
  pub carried : (rows : List Movement) (cs : List ℕ) → carries h rows cs ≡ true → Carried h rows cs
  unfolding records_of
  carried rows cs e =
      let u = passed h rows cs e in
      let ms = movements_from rows cs in
      let s = after (first h) rows cs in
      let r = and_right (leb s.records most_in_statement) _ u.complete in
      let k = leb-true s.records most_in_statement (and_left (leb s.records most_in_statement) _ u.complete) in
      let z = eqb-true s.from (length cs) (and_left (eqb s.from (length cs)) _ r) in
      let v : Valid july2004 (statement_from h rows cs) =
      record {
        dates = u.dates;
        movements = fine_within rows cs u.fine;
        sum = same_amount_true s.balance h.new_balance (and_right (eqb s.from (length cs)) _ r);
        short = omega (arith, k);
      } in
      record {
        whole = omega (arith, z);
        writable =
            record {
              valid = v;
              ok = (
                sym (opening_holds h.key h.old_date h.old_balance) ∙ u.old,
                all_append Holds (records_of_movements july2004 h.key ms) _ (fine_held rows cs u.fine) (sym (closing_holds h.key h.new_date h.new_balance) ∙ u.new, tt),
              );
              few = omega (arith, length_one july2004 (statement_from h rows cs), k);
            };
      }

  -- and that no such values fail it
  pub carries_all : (rows : List Movement) (cs : List ℕ) → Carried h rows cs → carries h rows cs ≡ true
  unfolding carries completed records_of
  carries_all rows cs c =
      let ms = movements_from rows cs in
      let w = c.writable in
      let o = w.ok in
      let a : balance_holds h.key h.old_date h.old_balance ≡ true = opening_holds h.key h.old_date h.old_balance ∙ o.0 in
      let z = all_right Holds (records_of_movements july2004 h.key ms) _ o.1 in
      let b : balance_holds h.key h.new_date h.new_balance ≡ true = closing_holds h.key h.new_date h.new_balance ∙ z.0 in
      let f = held_fine rows cs (all_left Holds (records_of_movements july2004 h.key ms) _ o.1) w.valid.movements in
      let i : nat_abs h.old_balance ≤ most_amount = balance_small h.key h.old_date h.old_balance a in
      let g = begins_first h (both a (both b (le-leb h.old_date h.new_date w.valid.dates))) in
      let p = passes h (first h) rows cs f (omega (arith, w.valid.short)) (omega (arith, c.whole)) (record { balance = omega (arith, i) }) in
      rw (g, p)
      (both (le-leb (2 + sizes ms) most_in_statement (omega (arith, w.valid.short)))
      (both (eq-eqb (0 + counted_in rows * text_size) (length cs) (omega (arith, c.whole))) (rw w.valid.sum (same_amount_self h.new_balance))))
