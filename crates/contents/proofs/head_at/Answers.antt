use Rattle.contents.proofs.Heading.{gathered}
use Rattle.contents.proofs.head_at.Goals as goal

pub returns : goal.returns
returns c = gathered c.args.opening.now c.args.closing.now c.key_at.ensures.answer c.look_at-old.ensures.answer c.look_at-new.ensures.answer
