use mathlib.Core.Bool.{not}
use mathlib.Core.Path.{ap}
use Prim.Native.Nat.{◌*◌}
use Rattle.records.specs.July.{record_size}
use Rattle.entries.specs.Entries.{line_at, entry_size}
use Rattle.journal_layout.proofs.Testing.{cut, not_single, other_entry, entry_fits}
use Rattle.journal_layout.proofs.fits.Goals as goal

pub returns-then-not-is_single : goal.returns-then-not-is_single
returns-then-not-is_single c =
    let a = c.args in
    not_single a.journal.now a.e a.k a.n (cut (line_at a.k) (record_size * a.n) a.journal.now) c.is_single.ensures.answer (ap not c.if-not-is_single.true)

pub returns-then-not-is_entry : goal.returns-then-not-is_entry
returns-then-not-is_entry c =
    let a = c.args in
    other_entry a.journal.now a.e a.k a.n (cut (line_at a.k) (record_size * a.n) a.journal.now) c.is_single.ensures.answer (ap not c.if-not-is_single.false)
    c.record_at-opening.ensures.answer c.closing_of-closing.ensures.answer (cut (entry_size * a.e) entry_size a.journal.now) c.is_entry.ensures (ap not c.if-not-is_entry.true)

pub returns : goal.returns
returns c =
    let a = c.args in
    entry_fits a.journal.now a.e a.k a.n (cut (line_at a.k) (record_size * a.n) a.journal.now) c.is_single.ensures.answer (ap not c.if-not-is_single.false)
    c.record_at-opening.ensures.answer c.closing_of-closing.ensures.answer (cut (entry_size * a.e) entry_size a.journal.now) c.is_entry.ensures (ap not c.if-not-is_entry.false)
    c.look_at-old.ensures.answer c.judged.ensures.answer c.follows.ensures.answer
