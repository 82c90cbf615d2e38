use mathlib.Core.Bool.{not}
use mathlib.Core.Path.{ap}
use Rattle.journal_layout.proofs.Places.{not_sound}
use Rattle.journal_layout.proofs.Listing.{sound_listed}
use Rattle.journal_layout.proofs.entry_place.Goals as goal

pub returns-then-not-sound : goal.returns-then-not-sound
returns-then-not-sound c = record { answer = rw c.at.ensures.answer (not_sound c.args.journal.now c.args.e c.sound.ensures.answer (ap not c.if-not-sound.true)) }

pub returns : goal.returns
returns c = record { answer = sound_listed c.args.journal.now c.args.e c.sound.ensures.answer c.if-not-sound.false c.listed_place.ensures.answer }
