-- Whatever meets the contract of the check meets demand 2, and its answer obeys the rule of refusal.
use mathlib.Core.Path.{◌≡◌, refl, ap, sym, ◌∙◌}
use mathlib.Core.List.{List}
use Prim.Native.Nat.{ℕ}
use Rattle.framing.specs.declared.Form.{Form}
use Rattle.grammar.specs.Answer.{Answer, accepted, refused}
use Rattle.grammar.specs.Files.{canonical, check_of, Ruled}
use Rattle.grammar.specs.Demand.{Demand2}
use Rattle.records.specs.July.{coding_of}
use Rattle.records.proofs.Theorems.{demand2, ruled}
use Rattle.statements.specs.Answers.{checked_of, answer_of, Check}
use Rattle.std.specs.Prelude.{Result}
use Rattle.framing.specs.declared.refusals.Refusal.{Refusal}
use Rattle.statements.specs.declared.Counts.{Counts}
use Rattle.statements.proofs.Listed.{AllListed, check_listed}

-- nothing is lost between the definitions' answer and the code's
back : (a : Answer) → AllListed a → answer_of (checked_of a) ≡ a
back (accepted c) l = refl
back (refused n r) l = ap (λ k. refused k r) l

pub check_answer_lem : {f : Form} {b : List ℕ} {r : Result Counts Refusal} → Check f b r → answer_of r ≡ check_of (coding_of f) f b
check_answer_lem {f} {b} c = ap answer_of c.answer ∙ back (check_of (coding_of f) f b) (check_listed f b)

pub check_ruled : {f : Form} {b : List ℕ} {r : Result Counts Refusal} → Check f b r → Ruled (coding_of f) f b (answer_of r)
check_ruled {f} {b} c = rw (check_answer_lem c) (ruled f b)

pub check_demand2 : (check : Form → List ℕ → Result Counts Refusal) → ((f : Form) (b : List ℕ) → Check f b (check f b)) → Demand2 coding_of (λ f b. answer_of (check f b))
check_demand2 check c =
    record {
      accepts = λ f b ss g. check_answer_lem (c f b) ∙ demand2.accepts f b ss g;
      only = λ f b n o e. demand2.only f b n o (sym (check_answer_lem (c f b)) ∙ e);
      alike = λ f b. check_answer_lem (c f b) ∙ demand2.alike f b ∙ sym (check_answer_lem (c f (canonical (coding_of f) f b)));
    }
