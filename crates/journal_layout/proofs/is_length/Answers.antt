use Rattle.journal_layout.specs.Layout.{is_length}
use mathlib.Core.Path.{refl}
use Rattle.journal_layout.proofs.is_length.Goals as goal

pub returns : goal.returns
unfolding is_length
returns c = refl
