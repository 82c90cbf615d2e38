use Rattle.writing.proofs.Tested.{key_tested}
use borrow.Author.Rules.{rules}
use Rattle.writing.proofs.key_fits.Goals as goal

pub returns : goal.returns
returns c = key_tested c.args.key (search rules) c.digits.ensures.answer c.digits-2.ensures.answer c.letters.ensures.answer c.is_digit.ensures c.alnums.ensures.answer
