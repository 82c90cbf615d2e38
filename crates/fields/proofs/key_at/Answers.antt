use mathlib.Core.Path.{◌∙◌}
use Rattle.fields.proofs.Gathered.{default_key, no_key_lem, key_is}
use Rattle.fields.proofs.key_at.Goals as goal

pub returns-then-r-ne-RECORD : goal.returns-then-r-ne-RECORD
returns-then-r-ne-RECORD c =
    let k = c.default.ensures in
    record { answer = default_key k.0 k.1.0 k.1.1.0 k.1.1.1.0 k.1.1.1.1 ∙ no_key_lem _ c.if-r-ne-RECORD.true }

pub returns : goal.returns
returns c = record { answer = key_is c.args.r.now c.if-r-ne-RECORD.false c.zone.ensures c.zone-2.ensures c.zone-3.ensures c.zone-4.ensures }
