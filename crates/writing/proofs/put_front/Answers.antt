use Rattle.writing.proofs.Filled.{front_put}
use borrow.Author.Rules.{rules}
use Rattle.writing.proofs.put_front.Goals as goal

pub returns : goal.returns
returns c =
    front_put c.args.code c.args.key c.args.internal c.args.operation c.args.date (search rules) (search rules) (search rules) c.args.out.now c.requires.0
    c.put_bank.ensures
    c.put_account.ensures
