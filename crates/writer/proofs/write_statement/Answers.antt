use Rattle.std.proofs.Common.{ap, sym, ◌∙◌, length}
use Rattle.writer.specs.Steps.{plan_of}
use Rattle.writer.proofs.Written.{wrote}
use Rattle.writer.proofs.write_statement.Goals as goal

pub returns : goal.returns
returns c =
    let a = c.args in
    wrote a.head a.table.now a.complements.now a.out.now
    (sym c.in_ok-bytes.was ∙ c.plan.ensures ∙ ap (λ t. plan_of a.head t (length a.complements.now) (length a.out.now)) c.test_rows-s.ensures)
    c.put_ends.ensures c.put_rows.ensures
