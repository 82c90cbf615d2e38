-- The answer on a statement written as the paper gives it, of whatever meets the contract: 19, then 20, each with record 0; else the number of bytes.
use mathlib.Core.Path.{◌≡◌, refl, sym, ap, ◌∙◌}
use mathlib.Core.Bool.{Bool, true, false}
use mathlib.Core.List.{List}
use Prim.Native.Nat.{ℕ, ◌<◌, ◌≤◌}
use lib.Dec.{eqb}
use lib.ListN.{length}
use borrow.Author.Tests.{lt-ltb, le-ltb}
use Rattle.std.specs.Prelude.{Result, Ok, Err}
use Rattle.zones.specs.Choice.{pick}
use Rattle.framing.specs.Refusals.{refusal_of}
use Rattle.framing.specs.declared.refusals.Refusal.{Refusal}
use Rattle.framing.proofs.Reasons.{reason_back, reason_positive}
use Rattle.fields.specs.declared.Movement.{Movement}
use Rattle.contents.specs.declared.Head.{Head}
use Rattle.writer.specs.Values.{ReadAs, written_of}
use Rattle.writer.specs.Test.{carries}
use Rattle.writer.specs.Writing.{write_answer_of}
use Rattle.writer.specs.Answers.{PaperWrite, paper_write, WriteStatement}
use Rattle.writer.proofs.Carried.{carried}
use Rattle.writer.proofs.Theorems.{carried_read, read_carries}

module _ {h : Head} {rows : List Movement} {cs out : List ℕ} {r : Result ℕ Refusal} {out' : List ℕ} (g : WriteStatement h rows cs out r out') where
  pub written_none : (ReadAs h rows cs → ⊥) → paper_write r ≡ record { number = 19; at = 0; bytes = 0 }
  unfolding write_answer_of
  written_none none = ap paper_write g.answer ∙ by (carries h rows cs) refl
    where
      by : (t : Bool) → carries h rows cs ≡ t → paper_write (write_answer_of h rows cs (length out)) ≡ record { number = 19; at = 0; bytes = 0 }
      by true e = absurd (none (carried_read h rows cs (carried h rows cs e)))
      by false e = rw e

  module _ (c : ReadAs h rows cs) where
    pub written_short : length out < length (written_of h rows cs) → paper_write r ≡ record { number = 20; at = 0; bytes = 0 }
    unfolding write_answer_of
    written_short s = ap paper_write g.answer ∙ rw (read_carries h rows cs c, lt-ltb (length out) (length (written_of h rows cs)) s)

    pub written_there : length (written_of h rows cs) ≤ length out → paper_write r ≡ record { number = 0; at = 0; bytes = length (written_of h rows cs) }
    unfolding write_answer_of
    written_there s = ap paper_write g.answer ∙ rw (read_carries h rows cs c, le-ltb (length out) (length (written_of h rows cs)) s)

-- the record determines the answer: no two have the same
abbrev write_from : PaperWrite → Result ℕ Refusal
write_from p = pick (eqb p.number 0) (Ok p.bytes) (Err (refusal_of p.number p.at))

from_paper : (r : Result ℕ Refusal) → write_from (paper_write r) ≡ r
from_paper (Ok n) = refl
from_paper (Err e) = rw (reason_positive e.reason, reason_back e.reason)

pub paper_apart : {r q : Result ℕ Refusal} → paper_write r ≡ paper_write q → r ≡ q
paper_apart {r} {q} p = sym (from_paper r) ∙ ap write_from p ∙ from_paper q
