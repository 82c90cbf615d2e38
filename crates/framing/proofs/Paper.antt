-- The frame of a file as the paper gives it: 1 to 3 in that order, with record 0; else the number of records. Of whatever meets the contract.
use mathlib.Core.Path.{◌≡◌, refl, sym, ap, ◌∙◌}
use mathlib.Core.Bool.{Bool, true, false, not}
use mathlib.Core.List.{List}
use Prim.Native.Nat.{ℕ, ◌/◌, ◌%◌, ◌<◌, ◌≤◌}
use lib.Dec.{eqb, ltb}
use lib.ListN.{length}
use Rattle.zones.specs.Choice.{pick}
use Rattle.framing.specs.Files.{line_end, unknown_end, width_of}
use Rattle.framing.specs.Frames.{frame_by}
use Rattle.framing.specs.Answers.{PaperFrame, paper_frame, Cut, CutLength}
use Rattle.framing.specs.declared.Form.{Form}
use Rattle.framing.specs.declared.Frame.{Frame}
use Rattle.std.specs.Prelude.{Result, Ok, Err}
use Rattle.framing.specs.Refusals.{reason_of, listed, refusal_by, refusal_of}
use Rattle.framing.specs.declared.refusals.Refusal.{Refusal}
use Rattle.framing.specs.declared.refusals.Reason.TheVariants.{UnknownLineEnd, UnevenLength, TooManyRecords}
use Rattle.framing.proofs.Framing.{unknown, uneven_length, too_many, records, frame_length}

-- a file is cut as its length is
pub cut_by_length : {f : Form} {size most : ℕ} {b : List ℕ} {r : Result Frame Refusal} → Cut f size most b r → CutLength f size most (length b) r
cut_by_length {f} {size} {most} {b} g = record { answer = g.answer ∙ sym (frame_length f size most b) }

module _ {f : Form} {size most n : ℕ} {r : Result Frame Refusal} (g : CutLength f size most n r) where
  pub refused_1 : 2 < line_end f → paper_frame r ≡ record { number = 1; at = 0; records = 0 }
  refused_1 h = ap paper_frame (g.answer ∙ sym (unknown f size most n h))

  module _ (k : line_end f ≤ 2) where
    pub refused_2 : (n % width_of size f ≡ 0 → ⊥) → paper_frame r ≡ record { number = 2; at = 0; records = 0 }
    unfolding width_of
    refused_2 h = ap paper_frame (g.answer ∙ sym (uneven_length f size most n k h))

    pub refused_3 : n % width_of size f ≡ 0 → most < n / width_of size f → paper_frame r ≡ record { number = 3; at = 0; records = 0 }
    unfolding width_of
    refused_3 e h = ap paper_frame (g.answer ∙ sym (too_many f size most n k e h))

    pub cut_even : n % width_of size f ≡ 0 → n / width_of size f ≤ most → paper_frame r ≡ record { number = 0; at = 0; records = n / width_of size f }
    unfolding width_of
    cut_even e h = ap paper_frame (g.answer ∙ sym (records f size most n k e h))

-- The paper's record and the form determine the frame: two frames of one form with the same record are the same.
abbrev frame_from : Form → (size : ℕ) → PaperFrame → Result Frame Refusal
frame_from f size p = pick (eqb p.number 0) (Ok (record { width = width_of size f; count = p.records })) (Err (refusal_of p.number p.at))

from_paper : (f : Form) (size most n : ℕ) → frame_from f size (paper_frame (frame_by f size most n)) ≡ frame_by f size most n
unfolding frame_by reason_of listed
from_paper f size most n = by (unknown_end f) (not (eqb (n % width_of size f) 0)) (ltb most (n / width_of size f))
  where
    by : (a b c : Bool)
        → frame_from f size
        (paper_frame (pick a (Err (refusal_by UnknownLineEnd 0)) (pick b (Err (refusal_by UnevenLength 0)) (pick c (Err (refusal_by TooManyRecords 0)) (Ok (record { width = width_of size f; count = n / width_of size f }))))))
        ≡ pick a (Err (refusal_by UnknownLineEnd 0)) (pick b (Err (refusal_by UnevenLength 0)) (pick c (Err (refusal_by TooManyRecords 0)) (Ok (record { width = width_of size f; count = n / width_of size f }))))
    by true b c = refl
    by false true c = refl
    by false false true = refl
    by false false false = refl

pub paper_apart : {f : Form} {size most n other m : ℕ} {r q : Result Frame Refusal} → CutLength f size most n r → CutLength f size other m q → paper_frame r ≡ paper_frame q → r ≡ q
paper_apart {f} {size} {most} {n} {other} {m} g h p =
    g.answer ∙ sym (from_paper f size most n)
    ∙ ap (frame_from f size) (ap paper_frame (sym g.answer) ∙ p ∙ ap paper_frame h.answer)
    ∙ from_paper f size other m
    ∙ sym h.answer
