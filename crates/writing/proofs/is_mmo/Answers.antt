use Rattle.records.specs.July.{is_mmo}
use Rattle.writing.proofs.Tested.{no_mmo}
use Rattle.writing.proofs.is_mmo.Goals as goal

pub returns-then-text-lt3 : goal.returns-then-text-lt3
returns-then-text-lt3 c = record { answer = no_mmo c.args.text.now c.if-text-lt3.true }

pub returns : goal.returns
unfolding is_mmo
returns c = record { answer = c.same.ensures.answer }
