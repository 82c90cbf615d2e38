use Rattle.writer.proofs.Turns.{tests_on, tests_end}
use Rattle.writer.proofs.texts_fit.Goals as goal

pub loop-text-preserved : goal.loop-text-preserved
loop-text-preserved c =
    let t = c.in-Some.ensures.steps in
    tests_on c.args.texts.now c.loop-text.invariant c.in-Some.text.now c.next.new.self.rest.now t.1.0 t.1.1 t.0 c.text_fits.ensures.answer c.is_mmo-mmo.ensures.answer

pub returns : goal.returns
returns c = tests_end c.args.texts.now c.loop-text.invariant c.in-None.ensures.steps.1.0
