-- WHAT A POSITION MEANS, of any journal, key, span and table that is answered without a refusal.
use mathlib.Core.Path.{◌≡◌, refl, sym, ap, ◌∙◌}
use mathlib.Core.Bool.{Bool, true, false, not, ◌||◌}
use mathlib.Core.List.{List, [], ◌∷◌, ◌++◌, map}
use Prim.Native.Nat.{ℕ, zero, suc, ◌+◌, ◌-◌, ◌^◌, ◌<◌, ◌≤◌}
use native.Mathlib.Nat.{le_of_suc-le-suc, not-suc-le-zero}
use native.Mathlib.Omega.{arith}
use lib.Dec.{eqb, ltb}
use lib.ListN.{length, get_or, drop, length-map, get_or-append}
use lib.Seq.{drop_at}
use lib.IntN.{ℤ, pos, nat_abs, ◌-ℤ◌}
use borrow.Author.Tests.{eq-eqb, eqb-true, lt-ltb}
use Rattle.std.specs.Prelude.{Ok, Err}
use Rattle.zones.specs.Choice.{pick}
use Rattle.dates.specs.Days.{is_day}
use Rattle.dates.specs.Ordinals.{all_days, last_day, ordinal_of, next_day, day_after, of_ordinal}
use Rattle.dates.proofs.Ordinals.{last_day_lem as last_of_all, last_ordinal, ordinal_below, ordinal_order, ordinal_of_lem, of_ordinal_lem, of_ordinal_day, not_last}
use Rattle.framing.specs.Files.{All, width_of, plain}
use Rattle.framing.specs.Refusals.{refusal_by}
use Rattle.framing.specs.declared.refusals.Reason.TheVariants.{UnsoundJournal, NoSpan, NoSuchEntry, ShortTable}
use Rattle.framing.specs.declared.refusals.Refusal.{Refusal}
use Rattle.grammar.specs.declared.Key.{Key}
use Rattle.grammar.specs.Statements.{Statement}
use Rattle.grammar.specs.Parts.{no_statement}
use Rattle.grammar.proofs.Tests.{clash}
use Rattle.records.specs.July.{record_size, amount_in}
use Rattle.records.specs.Looks.{look_of}
use Rattle.fields.specs.declared.Valued.{Valued}
use Rattle.bodies.specs.Bodies.{closing_in}
use Rattle.bodies.proofs.Ends.{closing_there, closing_whole}
use Rattle.journal_layout.specs.Chains.{of_account}
use Rattle.journal_layout.specs.Test.{sound_in, held_of}
use Rattle.journal.specs.Arrivals.{last_balance}
use Rattle.journal.specs.Newest.{key_size, key_from}
use Rattle.journal.specs.Holdings.{body_in}
use Rattle.journal.specs.Promises.{Promise}
use Rattle.journal.proofs.Promises.{promise}
use Rattle.cash.specs.Value.{movements_of, first_balance, value_at, balance_at, sum_on}
use Rattle.cash.specs.Spans.{span_days, no_span, days_from, later_day}
use Rattle.cash.specs.Positions.{is_none, no_account, position_of, amounts_of, table_of, balance_in}
use Rattle.cash.specs.Answers.{Positions}
use Rattle.cash.proofs.Group.{less}
use Rattle.cash.proofs.Rows.{no_movement_lem}
use Rattle.cash.proofs.Spans.{next_day_amount, day_at}
use Rattle.cash.proofs.Account.{account_days, account_fits, account_last}
use Rattle.cash.proofs.Asking.{Spanned, spanned}

-- ---- an account of which a statement is held

pub record Account (k : Key) (ss : List Statement) : Type 0 where
  pub first : Statement
  pub rest : List Statement
  pub list : of_account k ss ≡ first ∷ rest

module _ {j : List ℕ} {ss : List Statement} (p : Promise j ss) (k : Key) where
  module _ (a : Account k ss) (day : ℕ) where
    from_first : balance_at k day ss ≡ value_at a.first.old_balance (movements_of k ss) day
    unfolding balance_at
    from_first = ap (λ (l : List Statement). value_at (first_balance l) (movements_of k ss) day) a.list

    -- NO AMOUNT PASSES 64 SIGNED BITS
    pub fits_64 : nat_abs (balance_at k day ss) < 2 ^ 63
    fits_64 = rw from_first (account_fits p k a.first a.rest a.list day)

    -- AT OR AFTER EVERY VALUE DATE of the account the amount is its last new balance
    pub last_is : All (λ (m : Valued). m.value ≤ day) (movements_of k ss) → balance_at k day ss ≡ last_balance a.first a.rest
    last_is h = from_first ∙ account_last p k a.first a.rest a.list day h

    -- without a movement every amount is the first old balance
    pub unmoved : movements_of k ss ≡ [] → balance_at k day ss ≡ a.first.old_balance
    unmoved e = from_first ∙ ap (λ l. value_at a.first.old_balance l day) e ∙ no_movement_lem a.first.old_balance day

  -- A DAY'S AMOUNT LESS THE DAY'S BEFORE is the sum of the movements valued that day
  pub difference : (day : ℕ) → is_day day ≡ true → day < last_day → balance_at k (next_day day) ss -ℤ balance_at k day ss ≡ sum_on (movements_of k ss) (next_day day)
  unfolding balance_at
  difference day h l =
      let b = first_balance (of_account k ss) in
      let ms = movements_of k ss in
      rw (next_day_amount b ms day (account_days p k) h (not_last day h l)) (less (value_at b ms day) (sum_on ms (next_day day)))

-- ---- what an answer without a refusal says

pub record Answered (j x : List ℕ) (first last n : ℕ) : Type 0 where
  pub sound : sound_in j ≡ true
  pub span : Spanned first last n
  pub size : length x ≡ key_size
  pub account : Account (key_from x) (held_of j)

some_first : (k : Key) (ss l : List Statement) → of_account k ss ≡ l → is_none l ≡ false → Account k ss
some_first k ss [] e h = absurd (clash refl h)
some_first k ss (s ∷ r) e h = record { first = s; rest = r; list = e }

pub answer_says : (j x : List ℕ) (first last room : ℕ) {n : ℕ} → Ok n ≡ position_of j x first last room → Answered j x first last n
unfolding position_of no_account
answer_says j x first last room {n} e =
    by (sound_in j) refl (no_span first last) refl (eqb (length x) key_size) refl (is_none (of_account (key_from x) (held_of j))) refl (ltb room (span_days first last)) e
  where
    by : (a : Bool) → sound_in j ≡ a → (b : Bool) → no_span first last ≡ b → (c : Bool) → eqb (length x) key_size ≡ c
        → (d : Bool) → is_none (of_account (key_from x) (held_of j)) ≡ d → (f : Bool)
        → Ok n ≡ pick a (pick b (Err (refusal_by NoSpan 0)) (pick (not c || d) (Err (refusal_by NoSuchEntry 0)) (pick f (Err (refusal_by ShortTable 0)) (Ok (span_days first last))))) (Err (refusal_by UnsoundJournal 0))
        → Answered j x first last n
    by true p false q true r false s false z =
        let m : n ≡ span_days first last = cc in
        record {
          sound = p;
          span = rw m (spanned first last q);
          size = eqb-true (length x) key_size r;
          account = some_first (key_from x) (held_of j) (of_account (key_from x) (held_of j)) refl s;
        }
    by true p false q true r false s true z = absurd (let y : ◌≡◌ {A = ℕ} 0 1 = cc in omega arith)
    by true p false q true r true s f z = absurd (let y : ◌≡◌ {A = ℕ} 0 1 = cc in omega arith)
    by true p false q false r d s f z = absurd (let y : ◌≡◌ {A = ℕ} 0 1 = cc in omega arith)
    by true p true q c r d s f z = absurd (let y : ◌≡◌ {A = ℕ} 0 1 = cc in omega arith)
    by false p b q c r d s f z = absurd (let y : ◌≡◌ {A = ℕ} 0 1 = cc in omega arith)

-- ---- the days of a span

module _ (first i : ℕ) (day : is_day first ≡ true) where
  later_is : later_day first i ≡ of_ordinal (ordinal_of first + i)
  unfolding later_day
  later_is = rw day

  later_day_lem : ordinal_of first + i < all_days → is_day (later_day first i) ≡ true
  later_day_lem l = rw later_is (of_ordinal_day (ordinal_of first + i) l)

  next_later : ordinal_of first + (i + 1) < all_days → later_day first (i + 1) ≡ next_day (later_day first i)
  unfolding later_day of_ordinal day_after
  next_later l =
      let z : ordinal_of first + (i + 1) ≡ suc (ordinal_of first + i) = omega arith in
      rw (day, z, lt-ltb (suc (ordinal_of first + i)) all_days (omega arith), lt-ltb (ordinal_of first + i) all_days (omega arith))

  -- it is not the last day of all
  later_early : ordinal_of first + (i + 1) < all_days → later_day first i < last_day
  later_early l =
      let m : ordinal_of first + i < all_days = omega arith in
      let o : ordinal_of (later_day first i) ≡ ordinal_of first + i = rw later_is (ordinal_of_lem (ordinal_of first + i) m) in
      (ordinal_order (later_day first i) last_day (later_day_lem m) last_of_all).1 (omega (arith, o, last_ordinal))

-- ---- the table

length_days : (k n : ℕ) → length (days_from k n) ≡ n
unfolding days_from
length_days k zero = refl
length_days k (suc n) = ap suc (length_days (next_day k) n)

map_at : (f : ℕ → ℤ) (l : List ℕ) (i : ℕ) → i < length l → get_or (map f l) i (pos 0) ≡ f (get_or l i 0)
map_at f [] i h = absurd (not-suc-le-zero h)
map_at f (x ∷ l) zero h = refl
map_at f (x ∷ l) (suc i) h = map_at f l i (le_of_suc-le-suc h)

day_there : (first n i : ℕ) → is_day first ≡ true → get_or (days_from first n) i 0 ≡ later_day first i → (f : ℕ → ℤ) → i < n → get_or (map f (days_from first n)) i (pos 0) ≡ f (later_day first i)
day_there first n i h e f l = map_at f (days_from first n) i (omega (arith, l, length_days first n)) ∙ ap f e

module _ {j x : List ℕ} {first last : ℕ} {t : List ℤ} {n : ℕ} {t' : List ℤ} (g : Positions j x first last t (Ok n) t') where
  abbrev pub says : Answered j x first last n
  says = answer_says j x first last (length t) g.answer

  table_is : t' ≡ amounts_of (key_from x) (held_of j) first n ++ drop n t
  unfolding table_of
  table_is = g.content ∙ rw (← g.answer)

  length_amounts : length (amounts_of (key_from x) (held_of j) first n) ≡ n
  unfolding amounts_of
  length_amounts = length-map (days_from first n) (λ day. balance_at (key_from x) day (held_of j)) ∙ length_days first n

  -- EACH ROW IS THAT DAY'S
  pub each_day : (i : ℕ) → i < n → get_or t' i (pos 0) ≡ balance_at (key_from x) (later_day first i) (held_of j)
  unfolding amounts_of later_day
  each_day i h =
      let s = says.span in
      let d : get_or (days_from first n) i 0 ≡ later_day first i =
      day_at first n i s.day (omega (arith, s.many, s.order, ordinal_below last s.day')) h ∙ sym (rw s.day) in
      ap (λ l. get_or l i (pos 0)) table_is
      ∙ get_or-append (amounts_of (key_from x) (held_of j) first n) (drop n t) (pos 0) i (omega (arith, h, length_amounts))
      ∙ day_there first n i s.day d (λ day. balance_at (key_from x) day (held_of j)) h

  -- a row less the row before it is the sum of the movements valued on its day
  pub next_row : (i : ℕ) → i + 1 < n → get_or t' (i + 1) (pos 0) -ℤ get_or t' i (pos 0) ≡ sum_on (movements_of (key_from x) (held_of j)) (later_day first (i + 1))
  next_row i h =
      let s = says.span in
      let l : ordinal_of first + (i + 1) < all_days = omega (arith, h, s.many, s.order, ordinal_below last s.day') in
      let d = next_later first i s.day l in
      rw (each_day (i + 1) h, each_day i (omega arith), d) (difference (promise j says.sound) (key_from x) (later_day first i) (later_day_lem first i s.day (omega arith)) (later_early first i s.day l))

  -- the last row is the last day's
  pub last_day_lem : get_or t' (n - 1) (pos 0) ≡ balance_at (key_from x) last (held_of j)
  unfolding later_day
  last_day_lem =
      let s = says.span in
      let z : ordinal_of first + (n - 1) ≡ ordinal_of last = omega (arith, s.many, s.order) in
      let d : later_day first (n - 1) ≡ last = rw (s.day, z) (of_ordinal_lem last s.day') in
      each_day (n - 1) (omega (arith, s.many, s.order)) ∙ ap (λ (day : ℕ). balance_at (key_from x) day (held_of j)) d

  -- THE LAST AMOUNT IS THE LAST NEW BALANCE, if the last day is at or after every value date held of the account
  pub last_amount : All (λ (m : Valued). m.value ≤ last) (movements_of (key_from x) (held_of j)) → get_or t' (n - 1) (pos 0) ≡ last_balance says.account.first says.account.rest
  last_amount h = last_day_lem ∙ last_is (promise j says.sound) (key_from x) says.account last h

  -- every row fits 64 signed bits
  pub row_fits : (i : ℕ) → i < n → nat_abs (get_or t' i (pos 0)) < 2 ^ 63
  row_fits i h = rw (each_day i h) (fits_64 (promise j says.sound) (key_from x) says.account (later_day first i))

  -- the rest is untouched
  pub rest_untouched : drop n t' ≡ drop n t
  rest_untouched = ap (drop n) table_is ∙ drop_at (amounts_of (key_from x) (held_of j) first n) (drop n t) n length_amounts

-- a refusal touches nothing
pub refused_untouched : {j x : List ℕ} {first last : ℕ} {t : List ℤ} {e : Refusal} {t' : List ℤ} → Positions j x first last t (Err e) t' → t' ≡ t
unfolding table_of
refused_untouched g = g.content ∙ rw (← g.answer)

-- ---- the balance of an entry

look_amount : (b : List ℕ) → length b ≡ record_size → (look_of b).amount ≡ amount_in b
unfolding look_of
look_amount b l = rw (eq-eqb (length b) record_size l)

nothing_there : (look_of (closing_in plain [])).amount ≡ pos 0
unfolding look_of closing_in width_of
nothing_there = refl

module _ (j : List ℕ) (sound : sound_in j ≡ true) (e : ℕ) where
  -- of a sound journal it is the statement's new balance, and 0 where there is no such entry
  pub entry_balance : 0 < e → e ≤ length (held_of j) → balance_in j e ≡ (get_or (held_of j) (e - 1) no_statement).new_balance
  unfolding balance_in
  entry_balance p q = let r = (promise j sound).reads e p q in look_amount (closing_in plain (body_in j e)) (closing_whole r) ∙ (closing_there r).amount

  pub no_entry_balance : length (held_of j) < e → balance_in j e ≡ pos 0
  unfolding balance_in
  no_entry_balance l = ap (λ b. (look_of (closing_in plain b)).amount) ((promise j sound).no_body e l) ∙ nothing_there
