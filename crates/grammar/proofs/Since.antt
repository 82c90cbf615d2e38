-- The state after some records, whatever they hold, in the paper's terms: what the records since the last 01 make it.
use mathlib.Core.Path.{◌≡◌, refl, sym, ◌∙◌, ap, ap₂}
use mathlib.Core.Bool.{Bool, true, false, ◌||◌, false≢true}
use mathlib.Core.Option.{Option, none, some}
use mathlib.Core.List.{List, [], ◌∷◌}
use Prim.Native.Nat.{ℕ, suc, ◌+◌, max}
use native.Mathlib.Omega.{arith}
use lib.ListN.{length}
use lib.IntN.{ℤ}
use Rattle.zones.specs.Choice.{pick}
use Rattle.grammar.specs.declared.Key.{Key}
use Rattle.grammar.specs.Answer.{Counts}
use Rattle.grammar.specs.Machine.{after}
use Rattle.grammar.specs.Record.{Rec, opening, movement, complement, closing, is_opening, is_movement, is_closing, Edition}
use Rattle.grammar.specs.Rules.{Open, Current, Mode, out, within, State, start, begun, grown, sized, counted, next, recs}
use Rattle.grammar.specs.Since.{any, last_from, since_opening, balance_of, is_mmo_record, tally}
use Rattle.grammar.proofs.Tests.{clash, or_none, or_assoc}
use Rattle.grammar.proofs.Rows.{more, counts_path}
use Rattle.grammar.proofs.Sound.{at}

module _ (p : Rec → Bool) where
  -- where p takes no record there is no last one
  pub none_last : (rs : List Rec) → any p rs ≡ false → last_from p rs ≡ []
  unfolding any last_from
  none_last [] e = refl
  none_last (r ∷ rs) e = by (p r) (any p rs) e
    where
      by : (t u : Bool) → (t || u) ≡ false → pick u (last_from p rs) (pick t (r ∷ rs) []) ≡ []
      by true u e = absurd (false≢true (sym e))
      by false true e = absurd (false≢true (sym e))
      by false false e = refl

  -- a record that p does not take changes nothing before others
  pub skip : (r : Rec) (rs : List Rec) → p r ≡ false → last_from p (r ∷ rs) ≡ last_from p rs
  unfolding last_from
  skip r rs e = rw e (by (any p rs) refl)
    where
      by : (u : Bool) → any p rs ≡ u → pick u (last_from p rs) [] ≡ last_from p rs
      by true g = refl
      by false g = sym (none_last rs g)

  -- the records from the last one on have one that p takes where all of them have
  pub any_last : (rs : List Rec) → any p (last_from p rs) ≡ any p rs
  unfolding any last_from
  any_last [] = refl
  any_last (r ∷ rs) = by (any p rs) (p r) refl refl (any_last rs)
    where
      by : (u t : Bool) → any p rs ≡ u → p r ≡ t → any p (last_from p rs) ≡ any p rs → any p (pick u (last_from p rs) (pick t (r ∷ rs) [])) ≡ (t || u)
      by true true g e h = h ∙ g
      by true false g e h = h ∙ g
      by false true g e h = rw e
      by false false g e h = refl

-- the latest of a date and the booking dates
abbrev pub latest_of : ℕ → List Rec → ℕ
latest_of d [] = d
latest_of d (opening k x b ∷ rs) = latest_of d rs
latest_of d (movement k p ∷ rs) = latest_of (max d p.booked) rs
latest_of d (complement e t ∷ rs) = latest_of d rs
latest_of d (closing k x b ∷ rs) = latest_of d rs

-- the open statement, from its 01 on
abbrev pub open_of : Key → ℕ → ℤ → List Rec → Open
open_of k d b rs = record { key = k; old = d; latest = latest_of d rs; balance = balance_of b rs; size = suc (length rs) }

module _ (E : Edition) where
  -- the open movement, from its 04 on
  abbrev pub current_of : List Rec → Option Current
  current_of [] = none
  current_of (opening k d b ∷ rs) = none
  current_of (movement k p ∷ rs) = some (record { repeated = E.repeats k p; seen = any (is_mmo_record E) rs })
  current_of (complement e t ∷ rs) = none
  current_of (closing k d b ∷ rs) = none

  -- the mode, from the last 01 on
  abbrev pub mode_of : List Rec → Mode
  mode_of [] = out
  mode_of (opening k d b ∷ rs) = pick (any is_closing rs) out (within (open_of k d b rs) (current_of (last_from is_movement rs)))
  mode_of (movement k p ∷ rs) = out
  mode_of (complement e t ∷ rs) = out
  mode_of (closing k d b ∷ rs) = out

  -- without an 01 nothing is opened
  stays_out : (rs : List Rec) (c : Counts) → any is_opening rs ≡ false → (after (recs E) (at c out) rs).mode ≡ out
  unfolding any
  stays_out [] c h = refl
  stays_out (opening k d b ∷ rs) c h = absurd (clash refl h)
  stays_out (movement k p ∷ rs) c h = stays_out rs _ h
  stays_out (complement e t ∷ rs) c h = stays_out rs _ h
  stays_out (closing k d b ∷ rs) c h = stays_out rs _ h

  -- the open statement after some records more
  abbrev grown_by : Open → List Rec → Open
  grown_by o rs =
      record { key = o.key; old = o.old; latest = latest_of o.latest rs; balance = balance_of o.balance rs; size = o.size + length rs }

  -- the open movement goes on where no 04 comes
  abbrev goes_on : Option Current → List Rec → Option Current
  goes_on none rs = none
  goes_on (some u) rs = some (record { repeated = u.repeated; seen = u.seen || any (is_mmo_record E) rs })

  -- the open movement after some records more
  abbrev current_after : Option Current → List Rec → Option Current
  current_after x rs = pick (any is_movement rs) (current_of (last_from is_movement rs)) (goes_on x rs)

  -- closed again where a 07 comes
  abbrev unless_closed : List Rec → Open → ℕ → Option Current → Mode
  unless_closed rs o n x = pick (any is_closing rs) out (within (sized n o) x)

  -- inside a statement, without a further 01
  goes : (rs : List Rec) (c : Counts) (o : Open) (x : Option Current) → any is_opening rs ≡ false
      → (after (recs E) (at c (within o x)) rs).mode ≡ unless_closed rs (grown_by o rs) (o.size + length rs) (current_after x rs)
  unfolding any last_from balance_of
  goes [] c o x h = ap₂ (unless_closed [] o) (omega arith) (ends x)
    where
      ends : (x : Option Current) → x ≡ goes_on x []
      ends none = refl
      ends (some u) = ap (λ t. some (record { repeated = u.repeated; seen = t })) (or_none u.seen)
  goes (opening k d b ∷ rs) c o x h = absurd (clash refl h)
  goes (movement k p ∷ rs) c o x h =
      goes rs _ (grown o p.booked p.amount) (some (record { repeated = E.repeats k p; seen = false })) h
      ∙ ap₂ (unless_closed rs (grown_by o (movement k p ∷ rs))) (omega arith) (by (any is_movement rs))
    where
      by : (u : Bool) → pick u (current_of (last_from is_movement rs)) (current_of (movement k p ∷ rs))
          ≡ current_of (pick u (last_from is_movement rs) (movement k p ∷ rs))
      by true = refl
      by false = refl
  goes (complement e t ∷ rs) c o none h =
      goes rs _ (sized (o.size + 1) o) none h
      ∙ ap₂ (unless_closed rs (grown_by o (complement e t ∷ rs))) (omega arith)
      (ap (λ l. pick (any is_movement rs) (current_of l) none) (sym (skip is_movement (complement e t) rs refl)))
  goes (complement e t ∷ rs) c o (some u) h =
      goes rs _ (sized (o.size + 1) o) (some (record { repeated = u.repeated; seen = u.seen || E.is_mmo t })) h
      ∙ ap₂ (unless_closed rs (grown_by o (complement e t ∷ rs))) (omega arith)
      (ap₂ (λ l v. pick (any is_movement rs) (current_of l) (some (record { repeated = u.repeated; seen = v })))
      (sym (skip is_movement (complement e t) rs refl)) (or_assoc u.seen (E.is_mmo t) (any (is_mmo_record E) rs)))
  goes (closing k d b ∷ rs) c o x h = stays_out rs _ h

  -- an 01 forgets what was before it
  reset : (rs : List Rec) (s : State) → any is_opening rs ≡ true → (after (recs E) s rs).mode ≡ mode_of (since_opening rs)
  unfolding any last_from
  reset [] s h = absurd (clash h refl)
  reset (r ∷ rs) s h = by r (any is_opening rs) refl h (reset rs (record { counts = counted s.counts r; mode = next E s.mode r }))
    where
      current : (u : Bool) → any is_movement rs ≡ u → pick u (current_of (last_from is_movement rs)) none ≡ current_of (last_from is_movement rs)
      current true g = refl
      current false g = ap current_of (sym (none_last is_movement rs g))

      by : (r : Rec) (u : Bool) → any is_opening rs ≡ u → (is_opening r || u) ≡ true
          → (any is_opening rs ≡ true
          → (after (recs E) (record { counts = counted s.counts r; mode = next E s.mode r }) rs).mode ≡ mode_of (since_opening rs))
          → (after (recs E) s (r ∷ rs)).mode ≡ mode_of (pick u (since_opening rs) (pick (is_opening r) (r ∷ rs) []))
      by r true g h f = f g
      by (opening k d b) false g h f =
          goes rs _ (begun k d b) none g
          ∙ ap₂ (unless_closed rs (grown_by (begun k d b) rs)) (omega arith) (current (any is_movement rs) refl)
      by (movement k p) false g h f = absurd (clash h refl)
      by (complement e t) false g h f = absurd (clash h refl)
      by (closing k d b) false g h f = absurd (clash h refl)

  -- the mode after any records is that of the records since the last 01
  pub mode_after_lem : (rs : List Rec) → (after (recs E) start rs).mode ≡ mode_of (since_opening rs)
  mode_after_lem rs = by (any is_opening rs) refl
    where
      by : (t : Bool) → any is_opening rs ≡ t → (after (recs E) start rs).mode ≡ mode_of (since_opening rs)
      by true e = reset rs start e
      by false e = stays_out rs _ e ∙ ap mode_of (sym (none_last is_opening rs e))

  -- each record adds to the counts
  counts_from : (rs : List Rec) (s : State)
      → (after (recs E) s rs).counts ≡ more s.counts.statements s.counts.movements s.counts.complements (tally rs)
  unfolding tally
  counts_from [] s = counts_path (omega arith) (omega arith) (omega arith)
  counts_from (opening k d b ∷ rs) s = counts_from rs _
  counts_from (movement k p ∷ rs) s = counts_from rs _ ∙ counts_path (omega arith) (omega arith) (omega arith)
  counts_from (complement e t ∷ rs) s = counts_from rs _ ∙ counts_path (omega arith) (omega arith) (omega arith)
  counts_from (closing k d b ∷ rs) s = counts_from rs _ ∙ counts_path (omega arith) (omega arith) (omega arith)

  -- the counts after any records are their tally
  pub counts_after : (rs : List Rec) → (after (recs E) start rs).counts ≡ tally rs
  counts_after rs = counts_from rs start ∙ counts_path (omega arith) (omega arith) (omega arith)
