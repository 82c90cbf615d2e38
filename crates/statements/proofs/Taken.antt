-- The next state, one law for each kind of record, and the bounds on what is kept.
use mathlib.Core.Path.{◌≡◌, refl, ap, sym, ◌∙◌}
use mathlib.Core.Bool.{Bool, true, false, ◌||◌}
use mathlib.Core.List.{List}
use Prim.Native.Nat.{ℕ, ◌+◌, ◌≤◌, max}
use native.Mathlib.Omega.{arith}
use lib.Dec.{eqb}
use Rattle.std.specs.Prelude.{unwrap_or}
use lib.ListN.{length}
use lib.IntN.{ℤ, nat_abs, ◌+ℤ◌}
use borrow.Author.Tests.{eq-eqb, ne_eqb, leb-true}
use Rattle.zones.specs.Class.{permitted, all}
use Rattle.zones.specs.Choice.{pick}
use Rattle.amounts.specs.Amounts.{most_amount, has_amount, amount_of}
use Rattle.std.specs.Prelude.{Option, Some, None}
use Rattle.amounts.proofs.RoundTrip.{read_has}
use Rattle.amounts.proofs.Whole.{abs_add}
use Rattle.layouts.specs.Zone.{part, value_in}
use Rattle.grammar.specs.Answer.{Counts}
use Rattle.grammar.specs.Record.{Rec, opening, movement, complement, closing}
use Rattle.grammar.specs.Rules.{start, out_of_place, counted, next, taken}
use Rattle.grammar.specs.Files.{Fine}
use Rattle.records.specs.July.{record_size, july, july2004, is_mmo, misfit, undated, key_in, date_in, amount_in, posting_in, decode_record, encode_record, repeats}
use Rattle.records.specs.Looks.{kind_of, judged_as, look_of}
use Rattle.records.specs.Tests.{movement_of}
use Rattle.records.specs.declared.Kind.{Kind}
use Rattle.records.specs.declared.Kind.TheVariants.{Opening, Movement, Complement, Closing}
use Rattle.records.specs.declared.rules.LastMovement.{LastMovement}
use Rattle.records.specs.declared.rules.LastMovement.TheVariants.{WithMmo}
use Rattle.records.specs.declared.Look.{Look}
use Rattle.records.proofs.Lawful.{july_lawful}
use Rattle.records.proofs.Canon.{front_kept}
use Rattle.statements.specs.declared.Progress.{Progress}
use Rattle.statements.specs.Progress.{begin, next_by, next_of, Flags, mode_of, record_at, flags_of, state_of, Small}
use Rattle.statements.proofs.Modes.{stands, decoded}

-- THE BOUNDS

-- an amount that was read is at most the largest
pub amount_small : (z : List ℕ) → nat_abs (value_in (amount_of z)) ≤ most_amount
unfolding has_amount
amount_small z = by (amount_of z) refl
  where
    by : (a : Option ℤ) → amount_of z ≡ a → nat_abs (value_in a) ≤ most_amount
    by (Some v) e = leb-true (nat_abs v) most_amount (read_has z v e)
    by None e = omega arith

-- after i records, the next one starting at a place
pub record Bound (i at : ℕ) (p : Progress) : Type 0 where
  pub opening : p.opening ≤ at
  pub mark : p.mark ≤ at
  pub size : p.size ≤ i
  pub totals : Small i p.totals

pub enough : {i j at to : ℕ} {p : Progress} → i ≤ j → at ≤ to → Bound i at p → Bound j to p
enough g h v =
    record {
      opening = omega (arith, v.opening);
      mark = omega (arith, v.mark);
      size = omega (arith, v.size);
      totals =
          record {
            statements = omega (arith, v.totals.statements);
            movements = omega (arith, v.totals.movements);
            complements = omega (arith, v.totals.complements);
            balance = omega (arith, v.totals.balance);
          };
    }

module _ (p : Progress) (at : ℕ) (k : Look) (s : nat_abs k.amount ≤ most_amount) where
  -- one record more
  pub next_bound : (i : ℕ) → Bound i at p → Bound (i + 1) at (next_of p at k)
  next_bound i v = by (unwrap_or k.kind Closing)
    where
      w : Bound (i + 1) at p
      w = enough (omega arith) (omega arith) v

      by : (c : Kind) → Bound (i + 1) at (next_by c p at k)
      by Opening =
          record {
            opening = omega arith;
            mark = w.mark;
            size = omega arith;
            totals = record { statements = w.totals.statements; movements = w.totals.movements; complements = w.totals.complements; balance = omega (arith, s) };
          }
      by Movement =
          record {
            opening = w.opening;
            mark = omega arith;
            size = omega (arith, v.size);
            totals =
                record {
                  statements = w.totals.statements;
                  movements = omega (arith, v.totals.movements);
                  complements = w.totals.complements;
                  balance = omega (arith, s, v.totals.balance, abs_add p.totals.balance k.amount);
                };
          }
      by Complement =
          record {
            opening = w.opening;
            mark = w.mark;
            size = omega (arith, v.size);
            totals = record { statements = w.totals.statements; movements = w.totals.movements; complements = omega (arith, v.totals.complements); balance = w.totals.balance };
          }
      by Closing =
          record {
            opening = w.opening;
            mark = w.mark;
            size = omega arith;
            totals = record { statements = omega (arith, v.totals.statements); movements = w.totals.movements; complements = w.totals.complements; balance = w.totals.balance };
          }

-- before any record
pub begin_bound : Bound 0 0 begin
begin_bound =
    record {
      opening = omega arith;
      mark = omega arith;
      size = omega arith;
      totals = record { statements = omega arith; movements = omega arith; complements = omega arith; balance = omega arith };
    }

-- THE NEXT STATE

pub begin_state : (file : List ℕ) → state_of file begin ≡ start
unfolding mode_of
begin_state file = refl

-- the next flags, for a record to which no rule applies
abbrev flags_next : Flags → Rec → Flags
flags_next f (opening k d b) = record { size = 1; movement = 0; key = k; repeated = f.repeated; old = d; latest = d; balance = b }
flags_next f (movement k q) =
    record { size = f.size + 1; movement = 1; key = f.key; repeated = repeats k q; old = f.old; latest = max f.latest q.booked; balance = f.balance +ℤ q.amount }
flags_next f (complement e t) =
    record { size = f.size + 1; movement = pick (is_mmo t) 2 f.movement; key = f.key; repeated = f.repeated; old = f.old; latest = f.latest; balance = f.balance }
flags_next f (closing k d b) =
    record { size = 0; movement = 0; key = f.key; repeated = f.repeated; old = f.old; latest = f.latest; balance = f.balance }

clash : {t : Bool} → t ≡ true → t ≡ false → ⊥
clash g h = let z : ◌≡◌ {A = ℕ} 0 1 = cc in omega arith

-- an MMO seen or not, as a number
seen_number : (t : Bool) (m : LastMovement) → movement_of (pick t WithMmo m) ≡ pick t 2 (movement_of m)
seen_number true m = refl
seen_number false m = refl

seen_in : (t : Bool) (m : ℕ) → eqb m 0 ≡ false → (eqb (pick t 2 m) 0 ≡ false) × (eqb (pick t 2 m) 2 ≡ (eqb m 2 || t))
seen_in true m h = (refl, go (eqb m 2))
  where
    go : (u : Bool) → true ≡ (u || true)
    go true = refl
    go false = refl
seen_in false m h = (h, go (eqb m 2))
  where
    go : (u : Bool) → u ≡ (u || false)
    go true = refl
    go false = refl

-- the flags follow the mode, for a record in its place
follows : (f : Flags) (r : Rec) → out_of_place (mode_of f) r ≡ false → mode_of (flags_next f r) ≡ next july2004 (mode_of f) r
unfolding mode_of out_of_place
follows f (opening k d b) h = refl
follows f (movement k q) h = go (eqb f.size 0) refl
  where
    z : eqb (f.size + 1) 0 ≡ false
    z = ne_eqb (f.size + 1) 0 (omega arith)

    go : (t : Bool) → eqb f.size 0 ≡ t → mode_of (flags_next f (movement k q)) ≡ next july2004 (mode_of f) (movement k q)
    go true e = absurd (clash refl (rw e at h))
    go false e = rw (e, z)
follows f (complement r t) h = go (eqb f.size 0) (eqb f.movement 0) refl refl
  where
    z : eqb (f.size + 1) 0 ≡ false
    z = ne_eqb (f.size + 1) 0 (omega arith)

    go : (u v : Bool) → eqb f.size 0 ≡ u → eqb f.movement 0 ≡ v → mode_of (flags_next f (complement r t)) ≡ next july2004 (mode_of f) (complement r t)
    go true v x y = absurd (clash refl (rw x at h))
    go false true x y = absurd (clash refl (rw (x, y) at h))
    go false false x y =
        let s = seen_in (is_mmo t) f.movement y in
        rw (x, y, z, s.0, s.1)
follows f (closing k d b) h = refl

-- a record of 120 bytes at a place of the file, to which no rule applies, and what the code knows of it
pub record Good (at : ℕ) (file b : List ℕ) (p : Progress) (k : Look) : Type 0 where
  pub wide : length b ≡ record_size
  pub there : record_at file at ≡ b
  pub look : k ≡ look_of b
  pub fine : Fine july b
  pub place : out_of_place (mode_of (flags_of file p)) (decode_record b) ≡ false

abbrev counts_of : Progress → Counts
counts_of p = record { statements = p.totals.statements; movements = p.totals.movements; complements = p.totals.complements }

record Follows (file b : List ℕ) (p q : Progress) : Type 0 where
  flags : flags_of file q ≡ flags_next (flags_of file p) (decode_record b)
  counts : counts_of q ≡ counted (counts_of p) (decode_record b)

-- what a 04 gives its 05 to repeat are its own bytes
repeats_own : (b : List ℕ) → length b ≡ record_size → Fine july b → decode_record b ≡ movement (key_in b) (posting_in b) → repeats (key_in b) (posting_in b) ≡ part 3 40 b
unfolding repeats
repeats_own b l f e = ap (part 3 40) (sym (ap encode_record e) ∙ july_lawful.again b l f) ∙ front_kept b l 3 40 (omega arith) (omega arith) (omega arith)

module _ {at : ℕ} {file b : List ℕ} {p : Progress} {k : Look} (g : Good at file b p k) where
  whole : look_of b ≡ record { kind = kind_of b; misfit = misfit b; undated = undated b; day = date_in b; amount = amount_in b; mmo = is_mmo (part 46 118 b); permitted = all permitted b }
  unfolding look_of
  whole = rw (eq-eqb (length b) record_size g.wide)

  next_follows : Follows file b p (next_of p at k)
  next_follows = by (judged_as b) refl (decoded b)
    where
      by : (c : Kind) → judged_as b ≡ c → decode_record b ≡ stands c b → Follows file b p (next_of p at k)
      by Opening q e = record { flags = rw (g.look, whole, q, e, g.there); counts = rw (g.look, whole, q, e) }
      by Movement q e = record { flags = rw (g.look, whole, q, e, g.there, repeats_own b g.wide g.fine e); counts = rw (g.look, whole, q, e) }
      by Complement q e = record { flags = rw (g.look, whole, q, e, seen_number (is_mmo (part 46 118 b)) p.movement); counts = rw (g.look, whole, q, e) }
      by Closing q e = record { flags = rw (g.look, whole, q, e); counts = rw (g.look, whole, q, e) }

  pub next_state : state_of file (next_of p at k) ≡ taken july2004 (state_of file p) (decode_record b)
  next_state =
      let w = next_follows in
      let m = ap mode_of w.flags ∙ follows (flags_of file p) (decode_record b) g.place in
      λ j. record { counts = w.counts j; mode = m j }
