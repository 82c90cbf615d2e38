use Rattle.writer.proofs.Turns.{Testing}
use Rattle.writer.proofs.texts_fit.Given as goal

abbrev pub invariant-loop-text : goal.invariant-loop-text
invariant-loop-text l = Testing l.texts l.ok l.seen l.text-iterator.rest.now l.text-iterator.size
