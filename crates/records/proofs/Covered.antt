-- Each layout covers 1 to 120 with no gap and no overlap, by computation.
use mathlib.Core.Path.{◌≡◌, refl}
use mathlib.Core.Bool.{true}
use Rattle.zones.specs.Class.{every}
use Rattle.layouts.specs.Zone.{covers}
use Rattle.records.specs.Layouts.{layout01, layout04, layout05, layout_mmo, layout07}
use Rattle.records.specs.July.{record_size}

pub covers01 : covers 0 record_size layout01 ≡ true
unfolding every
covers01 = refl

pub covers04 : covers 0 record_size layout04 ≡ true
unfolding every
covers04 = refl

pub covers05 : covers 0 record_size layout05 ≡ true
unfolding every
covers05 = refl

pub covers_mmo : covers 0 record_size layout_mmo ≡ true
unfolding every
covers_mmo = refl

pub covers07 : covers 0 record_size layout07 ≡ true
unfolding every
covers07 = refl
