use Rattle.journal_layout.proofs.Testing.{rest_tested}
use Rattle.journal_layout.proofs.rest_blank.Goals as goal

pub returns : goal.returns
returns c = rest_tested c.args.journal.now c.args.e c.args.k c.blanks.ensures.answer c.blanks-2.ensures.answer
