-- The span, the account's first entry, and the answer at each return of the code.
use mathlib.Core.Path.{◌≡◌, refl, sym, ◌∙◌}
use mathlib.Core.Bool.{Bool, true, false, not, ◌&&◌, ◌||◌}
use mathlib.Core.List.{List, [], ◌∷◌}
use Prim.Native.Nat.{ℕ, zero, suc, ◌+◌, ◌-◌, ◌<◌, ◌≤◌}
use native.Mathlib.Nat.{zero-add}
use native.Mathlib.Decide.{dec_lt}
use native.Mathlib.Numerals.{add-one}
use native.Mathlib.Omega.{arith}
use lib.Dec.{eqb, ltb}
use lib.ListN.{length, get_or, drop}
use lib.Seq.{drop-cons, drop-length}
use borrow.Author.Tests.{eq-eqb, eqb-true, eqb-false, le-ltb, ltb-true, ltb-false}
use Rattle.std.specs.Prelude.{Option, Some, None, Result, Ok, Err, OkIff, SomeIff, MatchOption}
use Rattle.std.specs.Result.{result_ok}
use Rattle.framing.specs.Files.{plain}
use Rattle.zones.specs.Choice.{pick}
use Rattle.dates.specs.Days.{is_day}
use Rattle.dates.specs.Answers.{Ordinal}
use Rattle.dates.specs.Ordinals.{all_days, last_day, ordinal_of, of_ordinal}
use Rattle.dates.proofs.Ordinals.{last_day_lem, last_ordinal, ordinal_less, ordinal_below, ordinal_day, ordinal_order}
use Rattle.grammar.specs.declared.Key.{Key}
use Rattle.grammar.specs.Record.{same_key}
use Rattle.grammar.specs.Statements.{Statement}
use Rattle.grammar.specs.Files.{Reads}
use Rattle.grammar.specs.Parts.{no_statement}
use Rattle.grammar.proofs.Tests.{clash}
use Rattle.records.specs.July.{coding_of}
use Rattle.records.specs.Looks.{look_of}
use Rattle.contents.specs.Heads.{record_at_of}
use Rattle.bodies.proofs.Ends.{look_balance}
use Rattle.journal_layout.specs.Chains.{of_account}
use Rattle.journal.specs.Newest.{key_size, key_from}
use Rattle.journal.specs.Holdings.{body_in, of_account_in}
use Rattle.journal.specs.Promises.{Promise}
use Rattle.cash.specs.Spans.{most_days, span_days, no_span, later_day}
use Rattle.cash.specs.Positions.{is_none, no_account}
use Rattle.cash.specs.Calls.{first_from}

-- ---- days

-- a result without its error
pub ok_some : {E : Type 0} (r : Result ℕ E) (P : Type 0) (v : ℕ) {o : Option ℕ} → OkIff r P v → o ≡ result_ok r → SomeIff o P v
ok_some (Ok x) P v h e = rw e h
ok_some (Err d) P v h e = rw e h

-- an ordinal is below 36,525 where it is that of a day
pub ordinal_some : {k : ℕ} {r : Option ℕ} → Ordinal k r → SomeIff r (ordinal_of k < all_days) (ordinal_of k)
ordinal_some {k} g = rw g.answer (by (is_day k) refl)
  where
    by : (t : Bool) → is_day k ≡ t → SomeIff (pick t (Some (ordinal_of k)) None) (ordinal_of k < all_days) (ordinal_of k)
    by true e = (ordinal_below k e, refl)
    by false e = λ h. clash (ordinal_day k h) e

-- no day after 31 December 2079
pub past_all : (k : ℕ) → last_day < k → ordinal_of k < all_days → ⊥
past_all k h l = omega (arith, ordinal_less last_day k last_day_lem (ordinal_day k l) h, last_ordinal)

-- the day so many days after a day
module _ (k n : ℕ) where
  pub after_none : (ordinal_of k < all_days → ⊥) → 0 ≡ later_day k n
  unfolding later_day
  after_none h = by (is_day k) refl
    where
      by : (t : Bool) → is_day k ≡ t → 0 ≡ pick t (of_ordinal (ordinal_of k + n)) 0
      by true e = absurd (h (ordinal_below k e))
      by false e = refl

  pub after_all : ordinal_of k < all_days → all_days ≤ n → 0 ≡ later_day k n
  unfolding later_day of_ordinal
  after_all h g = sym (rw (ordinal_day k h, le-ltb (ordinal_of k + n) all_days (omega arith)))

  pub after_there : {r : ℕ} → ordinal_of k < all_days → r ≡ of_ordinal (ordinal_of k + n) → r ≡ later_day k n
  unfolding later_day
  after_there h e = e ∙ sym (rw (ordinal_day k h))

-- ---- the span

-- what a span is that is not refused
pub record Spanned (first last n : ℕ) : Type 0 where
  pub none : no_span first last ≡ false
  pub day : is_day first ≡ true
  pub day' : is_day last ≡ true
  pub order : ordinal_of first ≤ ordinal_of last
  pub many : n ≡ span_days first last
  pub few : n ≤ most_days

module _ (first last : ℕ) where
  in_order : is_day first ≡ true → is_day last ≡ true → ltb last first ≡ false → ordinal_of first ≤ ordinal_of last
  in_order p q r = by (dec_lt (ordinal_of last) (ordinal_of first))
    where
      by : Dec (ordinal_of last < ordinal_of first) → ordinal_of first ≤ ordinal_of last
      by (yes h) = absurd (omega (arith, (ordinal_order last first q p).1 h, ltb-false last first r))
      by (no g) = omega arith

  -- each of the four tests
  pub spanned : no_span first last ≡ false → Spanned first last (span_days first last)
  unfolding no_span
  spanned e = by (is_day first) refl (is_day last) refl (ltb last first) refl (ltb most_days (span_days first last)) refl e
    where
      by : (a : Bool) → is_day first ≡ a → (b : Bool) → is_day last ≡ b → (c : Bool) → ltb last first ≡ c → (d : Bool) → ltb most_days (span_days first last) ≡ d
          → (not (a && b) || (c || d)) ≡ false → Spanned first last (span_days first last)
      by true p true q false r false u z =
          record { none = e; day = p; day' = q; order = in_order p q r; many = refl; few = ltb-false most_days (span_days first last) u }
      by true p true q false r true u z = absurd (cc)
      by true p true q true r d u z = absurd (cc)
      by true p false q c r d u z = absurd (cc)
      by false p b q c r d u z = absurd (cc)

  -- at the code's returns
  pub no_first : (ordinal_of first < all_days → ⊥) → no_span first last ≡ false → ⊥
  no_first h e = h (ordinal_below first (spanned e).day)

  pub no_last : (ordinal_of last < all_days → ⊥) → no_span first last ≡ false → ⊥
  no_last h e = h (ordinal_below last (spanned e).day')

  pub no_order : ordinal_of last < ordinal_of first → no_span first last ≡ false → ⊥
  no_order h e = let o = (spanned e).order in omega arith

  pub no_length : most_days < span_days first last → no_span first last ≡ false → ⊥
  no_length h e = let f = (spanned e).few in omega arith

  pub good_span : ordinal_of first < all_days → ordinal_of last < all_days → ordinal_of first ≤ ordinal_of last → span_days first last ≤ most_days
      → no_span first last ≡ false
  unfolding no_span
  good_span f l h g =
      let p = ordinal_day first f in
      let q = ordinal_day last l in
      rw (p, q, le-ltb most_days (span_days first last) g) (by (ltb last first) refl)
    where
      by : (t : Bool) → ltb last first ≡ t → (t || false) ≡ false
      by true e = absurd (omega (arith, (ordinal_order last first (ordinal_day last l) (ordinal_day first f)).0 (ltb-true last first e)))
      by false e = refl

-- ---- the account's first entry

module _ (j x : List ℕ) where
  abbrev own : ℕ → Bool
  own e = of_account_in x (body_in j e)

  first_at : (n e i : ℕ) → e < i → i ≤ e + n → own i ≡ true → ((k : ℕ) → e < k → k < i → own k ≡ false) → first_from n e j x ≡ i
  unfolding first_from
  first_at zero e i a b t others = absurd (omega arith)
  first_at (suc n) e i a b t others = by (eqb (e + 1) i) refl (λ l. first_at n (e + 1) i l (omega arith) t (λ k c d. others k (omega arith) d))
    where
      by : (u : Bool) → eqb (e + 1) i ≡ u → (e + 1 < i → first_from n (e + 1) j x ≡ i) → pick (own (e + 1)) (e + 1) (first_from n (e + 1) j x) ≡ i
      by true u next = let z : e + 1 ≡ i = eqb-true (e + 1) i u in rw (z, t)
      by false u next =
          let z = eqb-false (e + 1) i u in
          let l : e + 1 < i = omega arith in
          rw (others (e + 1) (omega arith) l) (next l)

  first_none : (n e : ℕ) → ((k : ℕ) → e < k → k ≤ e + n → own k ≡ false) → first_from n e j x ≡ 0
  unfolding first_from
  first_none zero e others = refl
  first_none (suc n) e others = rw (others (e + 1) (omega arith) (omega arith)) (first_none n (e + 1) (λ k c d. others k (omega arith) (omega arith)))

  -- what a search of the entries finds
  pub looked : (count : ℕ) (r : Option ℕ)
      → MatchOption r ((k : ℕ) → 1 ≤ k → k < count + 1 → own k ≡ false) (λ i. (1 ≤ i) × (i < count + 1) × (own i ≡ true) × ((k : ℕ) → 1 ≤ k → k < i → own k ≡ false))
      → SomeIff r (0 < first_from count 0 j x) (first_from count 0 j x)
  looked count None all = let z = first_none count 0 (λ k a b. all k (omega arith) (omega arith)) in λ h. absurd (omega arith)
  looked count (Some i) h =
      let z = first_at count 0 i (omega arith) (omega arith) h.2 (λ k a b. h.3 k (omega arith) b) in
      (omega arith, sym z)

-- what a promise says of it
module _ {j : List ℕ} {ss : List Statement} (p : Promise j ss) (x : List ℕ) where
  abbrev k : Key
  k = key_from x

  data Found : ℕ → List Statement → Type 0 where
    none : Found 0 []
    some : (i : ℕ) (rest : List Statement) → i < length ss → Found (suc i) (get_or ss i no_statement ∷ rest)

  found : length x ≡ key_size → (n e : ℕ) → e + n ≡ length ss → Found (first_from n e j x) (of_account k (drop e ss))
  unfolding first_from of_account
  found size zero e h =
      let z : e ≡ length ss = omega arith in
      rw (z, drop-length ss) none
  found size (suc n) e h =
      let l : e < length ss = omega arith in
      let i = found size n (e + 1) (omega arith) in
      rw (drop-cons ss e no_statement l, account_there l) (by (same_key (get_or ss e no_statement).key k) l (rw (add-one e) at i))
    where
      account_there : e < length ss → of_account_in x (body_in j (e + 1)) ≡ same_key (get_or ss e no_statement).key k
      account_there l =
          let z : e + 1 - 1 ≡ e = omega arith in
          rw (z, eq-eqb (length x) key_size size) at (p.account x (e + 1) (omega arith) (omega arith))

      by : (t : Bool) → e < length ss → Found (first_from n (suc e) j x) (of_account k (drop (suc e) ss))
          → Found (pick t (e + 1) (first_from n (e + 1) j x)) (pick t (get_or ss e no_statement ∷ of_account k (drop (suc e) ss)) (of_account k (drop (suc e) ss)))
      by true l i = rw (add-one e) (some e (of_account k (drop (suc e) ss)) l)
      by false l i = rw (add-one e) i

  -- a key of another length finds nothing
  wrong_size : eqb (length x) key_size ≡ false → (n e : ℕ) → first_from n e j x ≡ 0
  unfolding first_from of_account_in
  wrong_size h zero e = refl
  wrong_size h (suc n) e = rw (h, wrong_size h n (e + 1))

  -- an account that is held: its first statement, whose old balance the code reads in its entry
  pub record First (r : ℕ) : Type 0 where
    pub size : length x ≡ key_size
    pub first : Statement
    pub rest : List Statement
    pub list : of_account k ss ≡ first ∷ rest
    pub balance : (look_of (record_at_of (body_in j r) 0)).amount ≡ first.old_balance

  old_there : (i : ℕ) → i < length ss → (look_of (record_at_of (body_in j (suc i)) 0)).amount ≡ (get_or ss i no_statement).old_balance
  old_there i l =
      let z : suc i - 1 ≡ i = omega arith in
      let r : Reads (coding_of plain) plain (body_in j (suc i)) (get_or ss i no_statement ∷ []) = rw z at (p.reads (suc i) (omega arith) (omega arith)) in
      look_balance r

  pub some_held : {r : ℕ} → r ≡ first_from (length ss) 0 j x → 0 < r → First r × (no_account x ss ≡ false)
  unfolding no_account
  some_held {r} e h = size_by (eqb (length x) key_size) refl
    where
      by : (size : length x ≡ key_size) {n : ℕ} {l : List Statement} → Found n l → of_account k ss ≡ l → n ≡ r → First r × (no_account x ss ≡ false)
      by size none q u = absurd (omega arith)
      by size (some i rest l) q u = (
        record { size = size; first = get_or ss i no_statement; rest = rest; list = q; balance = rw (← u) (old_there i l) },
        rw (eq-eqb (length x) key_size size, q),
      )

      size_by : (t : Bool) → eqb (length x) key_size ≡ t → First r × (no_account x ss ≡ false)
      size_by true z = let s = eqb-true (length x) key_size z in by s (found s (length ss) 0 (zero-add (length ss))) refl (sym e)
      size_by false z = absurd (omega (arith, wrong_size z (length ss) 0))

  -- 25
  pub none_held : first_from (length ss) 0 j x ≡ 0 → no_account x ss ≡ true
  unfolding no_account
  none_held e = size_by (eqb (length x) key_size) refl
    where
      by : {n : ℕ} {l : List Statement} → Found n l → n ≡ 0 → is_none l ≡ true
      by none u = refl
      by (some i rest l) u = absurd (omega (arith, u))

      size_by : (t : Bool) → eqb (length x) key_size ≡ t → (not t || is_none (of_account k ss)) ≡ true
      size_by true z = let s = eqb-true (length x) key_size z in by (found s (length ss) 0 (zero-add (length ss))) e
      size_by false z = refl
