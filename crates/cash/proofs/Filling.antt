-- The loops that fill the table: the movements of a body, and the entries of a journal.
use mathlib.Core.Path.{◌≡◌, refl, sym, ap, ◌∙◌}
use mathlib.Core.Bool.{Bool, true, false}
use mathlib.Core.List.{List, [], ◌∷◌, ◌++◌, map, append_assoc, append-nil, map-append}
use Prim.Native.Nat.{ℕ, suc, ◌+◌, ◌-◌, ◌*◌, ◌^◌, ◌<◌, ◌≤◌}
use native.Mathlib.Decide.{dec_lt}
use native.Mathlib.Numerals.{add-one}
use native.Mathlib.Omega.{arith}
use lib.ListN.{length, get_or, take, drop, length-map, get_or-map, take-append-drop}
use lib.Seq.{take-suc, take_all, drop-cons}
use lib.IntN.{ℤ, pos, nat_abs, ◌+ℤ◌}
use borrow.Author.Tests.{eq-eqb}
use Rattle.std.specs.Prelude.{Some, None}
use Rattle.zones.specs.Choice.{pick}
use Rattle.dates.specs.Ordinals.{ordinal_of}
use Rattle.framing.specs.Files.{width_of, plain}
use Rattle.grammar.specs.declared.Key.{Key}
use Rattle.grammar.specs.Record.{Posting, movement, closing, same_key}
use Rattle.grammar.specs.Statements.{Movement, Statement, sizes, all_records}
use Rattle.grammar.specs.Files.{Reads}
use Rattle.grammar.specs.Parts.{records_before, no_statement}
use Rattle.grammar.proofs.Rows.{adds_then, moves_then}
use Rattle.records.specs.July.{record_size, repeats, decode_record, coding_of, edition_of}
use Rattle.fields.specs.declared.Valued.{Valued}
use Rattle.fields.specs.Rows.{valued_of, row_at_of, row_of, valued_at_of}
use Rattle.readers.specs.declared.Step.{Step}
use Rattle.readers.specs.Steps.{found_step, step_of}
use Rattle.readers.proofs.Movements.{before, rest, movement_there, movement_none}
use Rattle.readers.proofs.Over.{step_past, step_later}
use Rattle.contents.specs.Heads.{record_at_of}
use Rattle.contents.specs.Movements.{no_movement}
use Rattle.contents.proofs.Records.{HoldsAt, record_there}
use Rattle.contents.proofs.Moving.{row_held}
use Rattle.journal_layout.specs.Chains.{of_account}
use Rattle.journal_layout.proofs.Chain.{account_append}
use Rattle.journal.specs.Arrivals.{movements_in}
use Rattle.journal.specs.Newest.{key_size, key_from}
use Rattle.journal.specs.Holdings.{body_in, of_account_in}
use Rattle.journal.specs.Promises.{Promise}
use Rattle.cash.specs.Value.{valued, movements_of}
use Rattle.cash.specs.Buckets.{dated, dated_in, bump, filled}
use Rattle.cash.specs.Calls.{Room, Entering}
use Rattle.cash.proofs.Tables.{length_bump, length_filled, filled_append}

-- ---- room for a part of the movements

pub room_part : (t : List ℤ) (first : ℕ) (xs ys zs : List Valued) → Room t first (xs ++ (ys ++ zs)) → Room (filled first t xs) first ys
room_part t first xs ys zs r us vs m e l =
    let q : xs ++ (ys ++ zs) ≡ (xs ++ us) ++ (m ∷ (vs ++ zs)) =
    ap (λ l. xs ++ (l ++ zs)) e ∙ ap (λ l. xs ++ l) (append_assoc us (m ∷ vs) zs) ∙ sym (append_assoc xs us (m ∷ (vs ++ zs))) in
    rw (← filled_append first t xs us) (r (xs ++ us) (vs ++ zs) m q (omega (arith, l, length_filled first t xs)))

-- ---- one body

-- what the code reads of a 04
valued_held : (b : List ℕ) {k : Key} {p : Posting} → length b ≡ record_size → decode_record b ≡ movement k p → valued_at_of b ≡ valued_of p
unfolding valued_at_of row_at_of
valued_held b {k} {p} l e =
    let q : row_at_of b 0 ≡ row_of p 0 = row_held b 0 l e in
    let v : (row_at_of b 0).value ≡ p.value = ap (λ r. r.value) q in
    let a : (row_at_of b 0).amount ≡ p.amount = ap (λ r. r.amount) q in
    let z = eq-eqb (length b) record_size l in
    rw z (rw (rw z at v, rw z at a))

length_dated : (s : Statement) → length (dated_in s) ≡ length s.movements
unfolding dated_in
length_dated s = length-map (map valued s.movements) dated ∙ length-map s.movements valued

dated_at : (s : Statement) (i : ℕ) → get_or (dated_in s) i (dated (valued no_movement)) ≡ dated (valued (get_or s.movements i no_movement))
unfolding dated_in
dated_at s i = get_or-map dated (map valued s.movements) i (valued no_movement) ∙ ap dated (get_or-map valued s.movements i no_movement)

-- i movements stand in the table, and the place is that of the next, or of the 07
pub record Walked (s : Statement) (t : List ℤ) (first : ℕ) (now : List ℤ) (at : ℕ) : Type 0 where
  pub i : ℕ
  pub within : i ≤ length s.movements
  pub place : at ≡ (1 + sizes (take i s.movements)) * record_size
  pub long : length now ≡ length t
  pub table : now ≡ filled first t (take i (dated_in s))

-- the walk goes on
pub goes_on : (b : List ℕ) (at : ℕ) {n : Step} → Some n ≡ step_of b plain at → length b - n.next < length b - at
goes_on b at {n} p = by (dec_lt at (length b))
  where
    by : Dec (at < length b) → length b - n.next < length b - at
    by (yes l) = let q : at < n.next = rw (← p) at (step_later b plain at l) in omega arith
    by (no g) = absurd (let q = p ∙ sym (step_past b plain at (omega arith) (omega arith)) in let z : ◌≡◌ {A = ℕ} 0 1 = cc in omega arith)

module _ {b : List ℕ} {s : Statement} (r : Reads (coding_of plain) plain b (s ∷ [])) (t : List ℤ) (first : ℕ) where
  pub walk_start : Walked s t first t record_size
  unfolding sizes filled
  walk_start = record { i = 0; within = omega arith; place = refl; long = refl; table = refl }

  module _ {now : List ℤ} {at : ℕ} (w : Walked s t first now at) where
    abbrev ms : List Movement
    ms = s.movements

    abbrev m : Movement
    m = get_or ms w.i no_movement

    up_to : (i : ℕ) → before r 0 (omega arith) i * width_of record_size plain ≡ (1 + sizes (take i ms)) * record_size
    unfolding records_before width_of
    up_to i = ap (λ (n : ℕ). n * record_size) (omega arith)

    -- where a movement is left, it stands there
    step_there : w.i < length ms → step_of b plain at ≡ Some (found_step (length m.complements) ((1 + sizes (take (w.i + 1) ms)) * record_size))
    step_there l =
        let q = movement_there r 0 (omega arith) w.i (drop-cons ms w.i no_movement l) in
        rw (w.place, ← up_to w.i, ← up_to (w.i + 1)) q

    -- and none at the 07
    step_none : length ms ≤ w.i → step_of b plain at ≡ None
    step_none l =
        let e : w.i ≡ length ms = omega (arith, w.within) in
        rw (w.place, ← up_to w.i, e) (movement_none r 0 (omega arith))

    module _ {n : Step} (p : Some n ≡ step_of b plain at) where
      more : w.i < length ms
      more = by (dec_lt w.i (length ms))
        where
          by : Dec (w.i < length ms) → w.i < length ms
          by (yes l) = l
          by (no g) = absurd (let q = p ∙ step_none (omega arith) in let z : ◌≡◌ {A = ℕ} 0 1 = cc in omega arith)

      holds_there : HoldsAt b at (movement s.key m.posting)
      holds_there =
          let q : drop (before r 0 (omega arith) w.i) (all_records (edition_of plain) (s ∷ []))
          ≡ movement s.key m.posting ∷ adds_then (repeats s.key m.posting) m.complements
          (moves_then (edition_of plain) s.key (drop (suc w.i) ms) (closing s.key s.new_date s.new_balance ∷ (rest r 0 (omega arith) w.i).0)) =
          (rest r 0 (omega arith) w.i).1 ∙ rw (drop-cons ms w.i no_movement more) in
          rw (w.place, ← up_to w.i) (record_there r (before r 0 (omega arith) w.i) q)

      pub read_there : valued_at_of (record_at_of b at) ≡ valued m
      read_there = valued_held (record_at_of b at) holds_there.whole holds_there.values

      parted : dated_in s ≡ take w.i (dated_in s) ++ (dated (valued m) ∷ drop (suc w.i) (dated_in s))
      parted =
          let l : w.i < length (dated_in s) = omega (arith, more, length_dated s) in
          sym (take-append-drop w.i (dated_in s)) ∙ rw (drop-cons (dated_in s) w.i (dated (valued no_movement)) l, dated_at s w.i)

      next_table : bump now (ordinal_of m.posting.value - first) m.posting.amount ≡ filled first t (take (w.i + 1) (dated_in s))
      unfolding filled
      next_table =
          let l : w.i < length (dated_in s) = omega (arith, more, length_dated s) in
          rw (add-one w.i, take-suc (dated_in s) w.i (dated (valued no_movement)) l, filled_append first t (take w.i (dated_in s)) (get_or (dated_in s) w.i (dated (valued no_movement)) ∷ []), dated_at s w.i, ← w.table)

      -- what is added fits
      module _ {v : Valued} (e : v ≡ valued_at_of (record_at_of b at)) where
        same : v ≡ valued m
        same = e ∙ read_there

        pub turn_bound : Room t first (dated_in s) → ordinal_of v.value - first < length now → nat_abs (get_or now (ordinal_of v.value - first) (pos 0) +ℤ v.amount) < 2 ^ 63
        turn_bound p l =
            let q = p (take w.i (dated_in s)) (drop (suc w.i) (dated_in s)) (dated (valued m)) parted in
            let k : ordinal_of m.posting.value - first < length t = rw (← ap (λ x. x.value) same) (omega (arith, l, w.long)) in
            rw (ap (λ x. x.value) same, ap (λ x. x.amount) same, w.table) (q k)

        -- and the loop goes on
        pub turned : {now' : List ℤ} → now' ≡ bump now (ordinal_of v.value - first) v.amount → Walked s t first now' n.next
        turned {now'} q =
            let f = p ∙ step_there more in
            let z : n.next ≡ (1 + sizes (take (w.i + 1) ms)) * record_size = let y : n ≡ found_step (length m.complements) ((1 + sizes (take (w.i + 1) ms)) * record_size) = cc in ap (λ x. x.next) y in
            let q' : now' ≡ bump now (ordinal_of m.posting.value - first) m.posting.amount = q ∙ rw (ap (λ x. x.value) same, ap (λ x. x.amount) same) in
            record {
              i = w.i + 1;
              within = omega (arith, more);
              place = z;
              long = ap length q' ∙ length_bump now (ordinal_of m.posting.value - first) m.posting.amount ∙ w.long;
              table = q' ∙ next_table;
            }

    -- up to the 07
    pub walk_end : None ≡ step_of b plain at → now ≡ filled first t (dated_in s)
    walk_end p = w.table ∙ rw (take_all w.i (dated_in s) (omega (arith, length_dated s, last (dec_lt w.i (length ms)))))
      where
        last : Dec (w.i < length ms) → length ms ≤ w.i
        last (yes l) = absurd (let q = p ∙ step_there l in let z : ◌≡◌ {A = ℕ} 0 1 = cc in omega arith)
        last (no g) = omega arith

-- ---- the entries

movements_append : (ss ts : List Statement) → movements_in (ss ++ ts) ≡ movements_in ss ++ movements_in ts
unfolding movements_in
movements_append [] ts = refl
movements_append (s ∷ ss) ts = ap (λ l. s.movements ++ l) (movements_append ss ts) ∙ sym (append_assoc s.movements (movements_in ss) (movements_in ts))

abbrev dated_of : Key → List Statement → List Valued
dated_of k ss = map dated (movements_of k ss)

dated_append : (k : Key) (ss ts : List Statement) → dated_of k (ss ++ ts) ≡ dated_of k ss ++ dated_of k ts
unfolding movements_of
dated_append k ss ts =
    rw (account_append k ss ts, movements_append (of_account k ss) (of_account k ts), map-append valued (movements_in (of_account k ss)) (movements_in (of_account k ts)))
    (map-append dated (map valued (movements_in (of_account k ss))) (map valued (movements_in (of_account k ts))))

-- one statement: its movements where it is the account's
dated_one : (k : Key) (s : Statement) → dated_of k (s ∷ []) ≡ pick (same_key s.key k) (dated_in s) []
unfolding movements_of of_account movements_in dated_in
dated_one k s = by (same_key s.key k)
  where
    by : (t : Bool) → map dated (map valued (movements_in (pick t (s ∷ []) []))) ≡ pick t (map dated (map valued s.movements)) []
    by true = rw (append-nil s.movements)
    by false = refl

filled_pick : (first : ℕ) (t : List ℤ) (u : Bool) (xs : List Valued) → filled first t (pick u xs []) ≡ pick u (filled first t xs) t
unfolding filled
filled_pick first t true xs = refl
filled_pick first t false xs = refl

-- the movements of the entries before entry e stand in the table
pub record Entered (k : Key) (ss : List Statement) (t : List ℤ) (first : ℕ) (now : List ℤ) (e : ℕ) : Type 0 where
  pub table : now ≡ filled first t (dated_of k (take (e - 1) ss))

pub enter_start : (k : Key) (ss : List Statement) (t : List ℤ) (first : ℕ) → Entered k ss t first t 1
unfolding filled movements_of of_account movements_in
enter_start k ss t first = record { table = refl }

module _ {j : List ℕ} {ss : List Statement} (p : Promise j ss) (x : List ℕ) (size : length x ≡ key_size) (t : List ℤ) (first : ℕ) where
  abbrev k : Key
  k = key_from x

  module _ {now : List ℤ} {e : ℕ} (w : Entered k ss t first now e) where
    module _ (low : 1 ≤ e) (h : e ≤ length ss) where
      abbrev s : Statement
      s = get_or ss (e - 1) no_statement

      there : e - 1 < length ss
      there = omega arith

      account_there : of_account_in x (body_in j e) ≡ same_key s.key k
      account_there = rw (eq-eqb (length x) key_size size) at (p.account x e low h)

      split : ss ≡ take (e - 1) ss ++ (s ∷ drop (suc (e - 1)) ss)
      split = sym (take-append-drop (e - 1) ss) ∙ rw (drop-cons ss (e - 1) no_statement there)

      dated_split : dated_of k ss ≡ dated_of k (take (e - 1) ss) ++ (dated_of k (s ∷ []) ++ dated_of k (drop (suc (e - 1)) ss))
      dated_split =
          ap (dated_of k) split ∙ dated_append k (take (e - 1) ss) (s ∷ drop (suc (e - 1)) ss)
          ∙ ap (λ l. dated_of k (take (e - 1) ss) ++ l) (dated_append k (s ∷ []) (drop (suc (e - 1)) ss))

      pub entering : Room t first (dated_of k ss) → Entering now first x (body_in j e)
      entering r =
          record {
            one = s;
            reads = p.reads e low h;
            room =
                λ a. let same : same_key s.key k ≡ true = sym account_there ∙ a in
                let d : dated_of k (s ∷ []) ≡ dated_in s = dated_one k s ∙ rw same in
                let q : Room t first (dated_of k (take (e - 1) ss) ++ (dated_of k (s ∷ []) ++ dated_of k (drop (suc (e - 1)) ss))) = rw dated_split at r in
                rw (w.table, ← d) (room_part t first (dated_of k (take (e - 1) ss)) (dated_of k (s ∷ [])) (dated_of k (drop (suc (e - 1)) ss)) q);
          }

      pub entered : {now' : List ℤ}
          → ((u : Statement) → Reads (coding_of plain) plain (body_in j e) (u ∷ []) → now' ≡ pick (of_account_in x (body_in j e)) (filled first now (dated_in u)) now)
          → Entered k ss t first now' (e + 1)
      entered {now'} f =
          let z : e + 1 - 1 ≡ suc (e - 1) = omega arith in
          let d : dated_of k (take (e + 1 - 1) ss) ≡ dated_of k (take (e - 1) ss) ++ dated_of k (s ∷ []) =
          ap (λ (n : ℕ). dated_of k (take n ss)) z ∙ ap (dated_of k) (take-suc ss (e - 1) no_statement there) ∙ dated_append k (take (e - 1) ss) (s ∷ []) in
          let a : now' ≡ pick (same_key s.key k) (filled first now (dated_in s)) now = rw account_there at (f s (p.reads e low h)) in
          record {
            table =
                a
                ∙ sym (filled_pick first now (same_key s.key k) (dated_in s))
                ∙ ap (filled first now) (sym (dated_one k s))
                ∙ ap (λ n. filled first n (dated_of k (s ∷ []))) w.table
                ∙ sym (filled_append first t (dated_of k (take (e - 1) ss)) (dated_of k (s ∷ [])))
                ∙ ap (filled first t) (sym d);
          }

    pub enter_end : length ss < e → now ≡ filled first t (dated_of k ss)
    enter_end h = w.table ∙ rw (take_all (e - 1) ss (omega arith))
