-- The loop over a file's records: what it keeps, and one law for each way out of a turn.
use mathlib.Core.Path.{◌≡◌, refl, ap, sym, ◌∙◌}
use mathlib.Core.Bool.{Bool, true, false}
use mathlib.Core.List.{List, ◌++◌}
use Prim.Native.Nat.{ℕ, suc, ◌+◌, ◌-◌, ◌*◌, ◌<◌, ◌≤◌}
use native.Mathlib.Nat.{add-mul, one-mul, zero-mul, sub-zero}
use native.Mathlib.Omega.{arith}
use lib.Dec.{eqb, ltb}
use lib.ListN.{length, take, drop, length-append, length-drop}
use lib.Seq.{drop-drop, take_at, drop_at, take-append-le, length-take-le}
use borrow.Author.Tests.{eq-eqb, ne_eqb, eqb-true, eqb-false, ltb-true, ltb-false}
use Rattle.zones.specs.Choice.{pick}
use Rattle.framing.specs.declared.Form.{Form}
use Rattle.framing.specs.Files.{chunks}
use Rattle.grammar.specs.Answer.{accepted, refused}
use Rattle.grammar.specs.Machine.{judge_of, scan}
use Rattle.grammar.specs.Rules.{start, taken, is_out}
use Rattle.grammar.specs.Files.{rec_of, files}
use Rattle.grammar.proofs.Quiet.{quiet}
use Rattle.grammar.proofs.Seam as Seam
use Rattle.records.specs.July.{record_size, decode_record, coding_of, edition_of}
use Rattle.records.specs.Looks.{look_of}
use Rattle.records.specs.declared.Look.{Look}
use Rattle.statements.specs.declared.Progress.{Progress}
use Rattle.std.specs.Prelude.{Some, None, Ok, Err}
use Rattle.std.proofs.lemmas.Option.{none-some, same_Some}
use Rattle.framing.specs.Refusals.{reason_of, listed, refusal_by}
use Rattle.framing.specs.declared.refusals.Reason.{Reason}
use Rattle.framing.specs.declared.refusals.Reason.TheVariants.{OpenStatement}
use Rattle.statements.specs.Answers.{reason_in, checked_of}
use Rattle.statements.specs.Progress.{begin, next_of, mode_of, flags_of, state_of, Sized}
use Rattle.statements.proofs.Modes.{out_is}
use Rattle.statements.proofs.Judging.{look_small}
use Rattle.statements.proofs.Taken.{Bound, enough, begin_bound, begin_state, next_bound, next_state, Good}

-- no reason: no rule applies
pub quiet_in : (n : ℕ) → None ≡ reason_in n → n ≡ 0
quiet_in n = by (eqb n 0) refl
  where
    by : (t : Bool) → eqb n 0 ≡ t → None ≡ reason_in n → n ≡ 0
    by true e p = eqb-true n 0 e
    by false e p = absurd (none-some _ (rw e at p))

-- a reason: that of the number
named_in : {u : Reason} (n : ℕ) → Some u ≡ reason_in n → (n ≡ 0 → ⊥) × (u ≡ reason_of n)
named_in {u} n = by (eqb n 0) refl
  where
    by : (t : Bool) → eqb n 0 ≡ t → Some u ≡ reason_in n → (n ≡ 0 → ⊥) × (u ≡ reason_of n)
    by true e p = absurd (none-some _ (sym (rw e at p)))
    by false e p = (eqb-false n 0 e, same_Some _ _ (rw e at p))

times : {i count : ℕ} (w : ℕ) → i < count → (count - i) * w ≡ w + (count - (i + 1)) * w
times {i} {count} w h =
    let e : count - i ≡ 1 + (count - (i + 1)) = omega arith in
    rw (e, add-mul, one-mul)

split : {i count : ℕ} (w : ℕ) → i ≤ count → i * w + (count - i) * w ≡ count * w
split {i} {count} w h =
    let e : i + (count - i) ≡ count = omega arith in
    sym (add-mul i (count - i) w) ∙ ap (λ n. n * w) e

next_place : (i w : ℕ) → (i + 1) * w ≡ i * w + w
next_place i w = add-mul i 1 w ∙ ap (λ n. i * w + n) (one-mul w)

-- i records are behind, and what is answered from here on, of the bytes that are left, is the whole answer
pub record Going (f : Form) (w count : ℕ) (b : List ℕ) (p : Progress) (i : ℕ) (left : List ℕ) : Type 0 where
  pub few : i ≤ count
  pub there : left ≡ drop (i * w) b
  pub rest : scan (files (coding_of f) f) i (state_of b p) (chunks w (count - i) left) ≡ scan (files (coding_of f) f) 0 start (chunks w count b)
  pub bound : Bound i (i * w) p

module _ {f : Form} {w count : ℕ} {b : List ℕ} (z : Sized f w count (length b)) where
  pub begun : Going f w count b begin 0 b
  begun = record { few = omega arith; there = rw zero-mul; rest = rw (begin_state b, sub-zero); bound = enough (omega arith) (omega arith) begin_bound }

  module _ {p : Progress} {i : ℕ} {left : List ℕ} (g : Going f w count b p i left) where
    left_length : length left ≡ (count - i) * w
    left_length = let e : length left ≡ length b - i * w = ap length g.there ∙ length-drop (i * w) b in omega (arith, split w g.few, z.whole)

    all_read : length left < w → i ≡ count
    all_read h = by (ltb i count) refl
      where
        by : (t : Bool) → ltb i count ≡ t → i ≡ count
        by true e = absurd (omega (arith, left_length, times w (ltb-true i count e)))
        by false e = let m = ltb-false i count e in omega (arith, g.few)

    -- the two ends
    ended : length left < w → pick (is_out (mode_of (flags_of b p))) (accepted (state_of b p).counts) (refused 14 i) ≡ scan (files (coding_of f) f) 0 start (chunks w count b)
    unfolding scan chunks
    ended h =
        let e : i ≡ count = all_read h in
        let n : count - i ≡ 0 = omega arith in
        let y : scan (files (coding_of f) f) i (state_of b p) (chunks w (count - i) left) ≡ pick (is_out (mode_of (flags_of b p))) (accepted (state_of b p).counts) (refused 14 i) = rw n in
        sym y ∙ g.rest

    pub closed_end : length left < w → p.size ≡ 0
        → Ok (record { statements = p.totals.statements; movements = p.totals.movements; complements = p.totals.complements }) ≡ checked_of (scan (files (coding_of f) f) 0 start (chunks w count b))
    closed_end h o = ap checked_of (rw (out_is (flags_of b p) ∙ eq-eqb p.size 0 o) at (ended h))

    pub open_end : length left < w → (p.size ≡ 0 → ⊥) → Err (refusal_by OpenStatement count) ≡ checked_of (scan (files (coding_of f) f) 0 start (chunks w count b))
    unfolding reason_of listed
    open_end h o = ap (λ n. Err (refusal_by OpenStatement n)) (sym (all_read h)) ∙ ap checked_of (rw (out_is (flags_of b p) ∙ ne_eqb p.size 0 o) at (ended h))

    -- a turn: a piece of a record and its line end, and what is left behind it
    module _ (piece more : List ℕ) (e : left ≡ piece ++ more) (l : length piece ≡ w) where
      inside : i < count
      inside = by (ltb i count) refl
        where
          by : (t : Bool) → ltb i count ≡ t → i < count
          by true q = ltb-true i count q
          by false q =
              let m = ltb-false i count q in
              let n : count - i ≡ 0 = omega arith in
              absurd (omega (arith, left_length ∙ ap (λ x. x * w) n ∙ zero-mul w, ap length e ∙ length-append piece more, z.width))

      within : i * w + w ≤ length b
      within = omega (arith, times w inside, split w g.few, z.whole)

      room : record_size ≤ length piece
      room = omega (arith, l, z.width)

      pub record_length : record_size ≡ length (take record_size piece)
      record_length = sym (length-take-le record_size piece room)

      step : scan (files (coding_of f) f) i (state_of b p) (chunks w (count - i) left)
          ≡ pick (eqb (judge_of (files (coding_of f) f) (state_of b p) piece) 0)
          (scan (files (coding_of f) f) (i + 1) (taken (edition_of f) (state_of b p) (rec_of (coding_of f) piece)) (chunks w (count - (i + 1)) more))
          (refused (judge_of (files (coding_of f) f) (state_of b p) piece) (i + 1))
      unfolding scan chunks
      step =
          let n : count - i ≡ suc (count - (i + 1)) = omega (arith, inside) in
          rw (n, e, take_at piece more w l, drop_at piece more w l)

      -- a rule applies
      pub stops : {u : Reason} → Some u ≡ reason_in (judge_of (files (coding_of f) f) (state_of b p) piece)
          → Err (refusal_by u (i + 1)) ≡ checked_of (scan (files (coding_of f) f) 0 start (chunks w count b))
      stops {u} j =
          let n = named_in _ j in
          let e : scan (files (coding_of f) f) i (state_of b p) (chunks w (count - i) left) ≡ refused (judge_of (files (coding_of f) f) (state_of b p) piece) (i + 1)
          = step ∙ rw (ne_eqb _ 0 n.0) in
          rw n.1 (ap checked_of (sym e ∙ g.rest))

      -- none does: the record is taken
      module _ {k : Look} (t : k ≡ look_of (take record_size piece)) (j : judge_of (files (coding_of f) f) (state_of b p) piece ≡ 0) where
        good_at : Good (i * w) b (take record_size piece) p k
        unfolding judge_of
        good_at =
            let q = Seam.piece (coding_of f) f (state_of b p).mode piece j in
            record {
              wide = sym record_length;
              there = ap (take record_size) (sym g.there ∙ e) ∙ take-append-le record_size piece more room;
              look = t;
              fine = q.fine;
              place = (quiet (edition_of f) (state_of b p).mode (decode_record (take record_size piece)) q.quiet).place;
            }

        pub again : Going f w count b (next_of p (i * w) k) (i + 1) more
        again =
            record {
              few = omega (arith, inside);
              there = sym (drop_at piece more w l) ∙ ap (drop w) (sym e ∙ g.there) ∙ drop-drop w (i * w) b ∙ ap (λ n. drop n b) (sym (next_place i w));
              rest = rw (next_state good_at) (sym (step ∙ rw j) ∙ g.rest);
              bound = enough (omega arith) (omega (arith, next_place i w)) (next_bound p (i * w) k (look_small (take record_size piece) t) i g.bound);
            }
