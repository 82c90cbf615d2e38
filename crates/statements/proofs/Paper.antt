-- The check's answer as the paper gives it.
use mathlib.Core.Path.{◌≡◌, refl, sym, ap, ◌∙◌}
use mathlib.Core.List.{List}
use Prim.Native.Nat.{ℕ}
use Rattle.framing.specs.declared.Form.{Form}
use Rattle.grammar.specs.Answer.{Answer, accepted, refused}
use Rattle.grammar.specs.Statements.{Statement, counts_of}
use Rattle.grammar.specs.Files.{check_of, Reads}
use Rattle.records.specs.July.{coding_of}
use Rattle.records.proofs.Theorems.{counts}
use Rattle.statements.specs.Answers.{checked_of, paper_check, paper_of, checked_by, Check}
use Rattle.std.specs.Prelude.{Result, Ok, Err}
use Rattle.framing.specs.declared.refusals.Refusal.{Refusal}
use Rattle.framing.proofs.Reasons.{reason_back, reason_positive}
use Rattle.statements.specs.declared.Counts.{Counts}
use Rattle.statements.proofs.Listed.{AllListed, check_listed}

paper_checked : (a : Answer) → AllListed a → paper_check (checked_of a) ≡ paper_of a
paper_checked (accepted c) l = refl
paper_checked (refused n r) l = ap (λ k. record { number = k; at = r; statements = 0; movements = 0; complements = 0 }) l

-- at the code's returns
pub checks : {f : Form} {b : List ℕ} {r : Result Counts Refusal} → r ≡ checked_of (check_of (coding_of f) f b) → Check f b r
checks {f} {b} p = record { paper = ap paper_check p ∙ paper_checked (check_of (coding_of f) f b) (check_listed f b); answer = p }

-- of a file that reads as some statements
pub check_reads : {f : Form} {b : List ℕ} {r : Result Counts Refusal} {ss : List Statement} → Check f b r → Reads (coding_of f) f b ss
    → paper_check r
    ≡ record { number = 0; at = 0; statements = (counts_of ss).statements; movements = (counts_of ss).movements; complements = (counts_of ss).complements }
check_reads g t = g.paper ∙ ap paper_of (counts t)

-- the record determines the answer: no two have the same
pub checked_by_lem : (r : Result Counts Refusal) → checked_by (paper_check r) ≡ r
checked_by_lem (Ok c) = refl
checked_by_lem (Err e) = rw (reason_positive e.reason, reason_back e.reason)

pub paper_apart : {r q : Result Counts Refusal} → paper_check r ≡ paper_check q → r ≡ q
paper_apart {r} {q} p = sym (checked_by_lem r) ∙ ap checked_by p ∙ checked_by_lem q
