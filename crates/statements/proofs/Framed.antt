-- The check by the frame that the file's length gives.
use mathlib.Core.Path.{◌≡◌, refl}
use mathlib.Core.Bool.{Bool, true, false}
use mathlib.Core.List.{List}
use Prim.Native.Nat.{ℕ, ◌*◌, ◌%◌}
use native.Mathlib.Nat.{div-add-mod'}
use native.Mathlib.Omega.{arith}
use lib.ListN.{length}
use lib.Dec.{eqb}
use borrow.Author.Tests.{ltb-false, eqb-true, not-false}
use Rattle.framing.specs.declared.Form.{Form}
use Rattle.framing.specs.declared.Frame.{Frame}
use Rattle.std.specs.Prelude.{Result, Ok, Err}
use Rattle.framing.specs.Refusals.{reason_of, listed}
use Rattle.framing.specs.declared.refusals.Refusal.{Refusal}
use Rattle.statements.specs.Answers.{checked_of}
use Rattle.framing.specs.Files.{unknown_end, width_of, count_of, uneven, too_many, chunks}
use Rattle.framing.specs.Frames.{frame_of, frame_by}
use Rattle.grammar.specs.Answer.{refused}
use Rattle.grammar.specs.Machine.{scan}
use Rattle.grammar.specs.Rules.{start}
use Rattle.grammar.specs.Files.{files, check_of}
use Rattle.records.specs.July.{record_size, most_in_file, coding_of}
use Rattle.statements.specs.Progress.{Sized}

-- what a frame says of the file and of its check
abbrev Says : Form → List ℕ → Result Frame Refusal → Type 0
Says f b (Ok c) = Sized f c.width c.count (length b) × (check_of (coding_of f) f b ≡ scan (files (coding_of f) f) 0 start (chunks c.width c.count b))
Says f b (Err e) = Err e ≡ checked_of (check_of (coding_of f) f b)

says : (f : Form) (b : List ℕ) → Says f b (frame_of f record_size most_in_file b)
unfolding frame_of frame_by check_of width_of reason_of listed
says f b = by (unknown_end f) (uneven record_size f b) (too_many record_size most_in_file f b) refl refl refl
  where
    whole : uneven record_size f b ≡ false → length b ≡ count_of record_size f b * width_of record_size f
    whole u =
        let z : length b % width_of record_size f ≡ 0 = eqb-true _ 0 (not-false (eqb (length b % width_of record_size f) 0) u) in
        omega (arith, div-add-mod' (length b) (width_of record_size f))

    sized : unknown_end f ≡ false → uneven record_size f b ≡ false → too_many record_size most_in_file f b ≡ false
        → Sized f (width_of record_size f) (count_of record_size f b) (length b)
    sized x y z = record { line = x; width = refl; whole = whole y; few = ltb-false most_in_file (count_of record_size f b) z }

    by : (x y z : Bool) → unknown_end f ≡ x → uneven record_size f b ≡ y → too_many record_size most_in_file f b ≡ z → Says f b (frame_of f record_size most_in_file b)
    by true y z p q r = let e : check_of (coding_of f) f b ≡ refused 1 0 = rw p in rw p (rw e)
    by false true z p q r = let e : check_of (coding_of f) f b ≡ refused 2 0 = rw (p, q) in rw (p, q) (rw e)
    by false false true p q r = let e : check_of (coding_of f) f b ≡ refused 3 0 = rw (p, q, r) in rw (p, q, r) (rw e)
    by false false false p q r = rw (p, q, r) (sized p q r, rw (p, q, r))

pub framed : (f : Form) (b : List ℕ) (r : Result Frame Refusal) → r ≡ frame_of f record_size most_in_file b → Says f b r
framed f b r e = rw e (says f b)
