use lib.ListN.{drop}
use mathlib.Core.Path.{◌≡◌}
use Rattle.journal.specs.Newest.{last_part}
use Rattle.journal.specs.Plans.{parts_of, number_of}
use Rattle.journal.proofs.last_planned.Given as goal

abbrev pub invariant-loop-p : goal.invariant-loop-p
invariant-loop-p l =
    let p = l.parts in
    last_part l.p (number_of l.last) (parts_of (drop l.p p.bounds.now) p.file.now) l.key ≡ last_part 0 0 (parts_of p.bounds.now p.file.now) l.key
