use native.Mathlib.Omega.{arith}
use Rattle.journal.proofs.Latest.{part_inside, found_file, found_nowhere, found_used, found_journal}
use Rattle.entries.proofs.Found.{used_small, used_found}
use Rattle.journal.proofs.newest_planned.Goals as goal

pub offset_bounds-parts-p : goal.offset_bounds-parts-p
offset_bounds-parts-p c =
    let k = c.in-Ok.ensures.1 in
    let l = part_inside c.requires c.args.key.now k.long c.in-Some.p (rw k.same at c.in-Some.ensures) c.args.parts.inside in
    let i = l.0 in
    omega arith

pub bounds-parts-p : goal.bounds-parts-p
bounds-parts-p c =
    let k = c.in-Ok.ensures.1 in
    (part_inside c.requires c.args.key.now k.long c.in-Some.p (rw k.same at c.in-Some.ensures) c.args.parts.inside).0

pub overflow_sub-result : goal.overflow_sub-result
overflow_sub-result c =
    let k = c.in-Ok.ensures.1 in
    (part_inside c.requires c.args.key.now k.long c.in-Some.p (rw k.same at c.in-Some.ensures) c.args.parts.inside).1.rises

pub returns-in-Some : goal.returns-in-Some
returns-in-Some c =
    let k = c.in-Ok.ensures.1 in
    found_file c.requires c.args.key.now k.long c.in-Some.p (rw k.same at c.in-Some.ensures) c.args.parts.inside

pub returns-in_default-last_held : goal.returns-in_default-last_held
returns-in_default-last_held c =
    let k = c.in-Ok.ensures.1 in
    rw c.none_found-in_default-last_held.ensures
    (found_nowhere c.requires c.args.key.now k.long (rw k.same at c.in_default-last_planned.ensures) (rw k.same at c.in_default-last_held.ensures))

pub returns-in_default-used_at : goal.returns-in_default-used_at
returns-in_default-used_at c =
    let k = c.in-Ok.ensures.1 in
    absurd
    (found_used c.requires c.args.key.now k.long (rw k.same at c.in_default-last_planned.ensures) c.in-Some-last_held.e (rw k.same at c.in-Some-last_held.ensures) c.in_default-used_at.ensures.answer)

pub overflow_mul-result : goal.overflow_mul-result
overflow_mul-result c = let s = used_small c.in-Some-used_at.ensures in omega (arith, s.first)

pub overflow_add-result : goal.overflow_add-result
overflow_add-result c = let s = used_small c.in-Some-used_at.ensures in omega (arith, s.first)

pub overflow_mul-result-2 : goal.overflow_mul-result-2
overflow_mul-result-2 c = let s = used_small c.in-Some-used_at.ensures in omega (arith, s.records)

pub returns : goal.returns
returns c =
    let k = c.in-Ok.ensures.1 in
    found_journal c.requires c.args.key.now k.long (rw k.same at c.in_default-last_planned.ensures) c.in-Some-last_held.e (rw k.same at c.in-Some-last_held.ensures) (used_found c.in-Some-used_at.ensures.answer)
