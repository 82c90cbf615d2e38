use Rattle.journal.proofs.Storing.{size_is, stored}
use Rattle.journal.proofs.store.Goals as goal

pub returns : goal.returns
returns c =
    let a = c.args in
    let p = c.requires in
    λ s r l. (
      size_is a.journal.now a.e a.line r p.0 l,
      stored a.journal.now a.e a.line r p.0 l (size_is a.journal.now a.e a.line r p.0 l) c.record_at-opening.ensures.answer c.closing_of-closing.ensures.answer c.put_entry.ensures c.put_body.ensures,
    )
