use lib.ListN.{drop}
use mathlib.Core.Path.{◌≡◌}
use Rattle.journal.specs.Plans.{parts_of, judged_in}
use Rattle.journal.proofs.judged_planned.Given as goal

abbrev pub invariant-loop-part : goal.invariant-loop-part
invariant-loop-part l =
    let p = l.parts in
    judged_in l.after p.form (parts_of (drop l.part-index p.bounds.now) p.file.now) l.s ≡ judged_in l.initial.after p.form (parts_of p.bounds.now p.file.now) l.s
