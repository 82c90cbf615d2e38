-- A reason's number names it, and no other reason has it.
use mathlib.Core.Path.{◌≡◌, refl, sym, ap, ◌∙◌}
use mathlib.Core.Bool.{false}
use lib.Dec.{eqb}
use Rattle.framing.specs.Refusals.{reason_number, listed, reason_of}
use Rattle.framing.specs.declared.refusals.Reason.{Reason}
use Rattle.framing.specs.declared.refusals.Reason.TheVariants.{UnknownLineEnd, UnevenLength, TooManyRecords, WrongLineEnd, ForbiddenByte, UnknownCode, OutOfPlace, WrongZone, NoSuchDate, OtherKey, SecondMmo, DatesOutOfOrder, WrongSum, OpenStatement, TooLongStatement, NoSuchStatement, NoSuchMovement, ShortTable, NoSuchFile, ShortOutput, UnsoundJournal, NotNext, FullContents, FullJournal, NoSuchEntry, NoSpan}

pub reason_back : (u : Reason) → reason_of (reason_number u) ≡ u
unfolding reason_of listed
reason_back UnknownLineEnd = refl
reason_back UnevenLength = refl
reason_back TooManyRecords = refl
reason_back WrongLineEnd = refl
reason_back ForbiddenByte = refl
reason_back UnknownCode = refl
reason_back OutOfPlace = refl
reason_back WrongZone = refl
reason_back NoSuchDate = refl
reason_back OtherKey = refl
reason_back SecondMmo = refl
reason_back DatesOutOfOrder = refl
reason_back WrongSum = refl
reason_back OpenStatement = refl
reason_back TooLongStatement = refl
reason_back NoSuchStatement = refl
reason_back NoSuchMovement = refl
reason_back ShortTable = refl
reason_back NoSuchFile = refl
reason_back ShortOutput = refl
reason_back UnsoundJournal = refl
reason_back NotNext = refl
reason_back FullContents = refl
reason_back FullJournal = refl
reason_back NoSuchEntry = refl
reason_back NoSpan = refl

pub reason_apart : {u v : Reason} → reason_number u ≡ reason_number v → u ≡ v
reason_apart {u} {v} p = sym (reason_back u) ∙ ap reason_of p ∙ reason_back v

pub reason_positive : (u : Reason) → eqb (reason_number u) 0 ≡ false
reason_positive UnknownLineEnd = refl
reason_positive UnevenLength = refl
reason_positive TooManyRecords = refl
reason_positive WrongLineEnd = refl
reason_positive ForbiddenByte = refl
reason_positive UnknownCode = refl
reason_positive OutOfPlace = refl
reason_positive WrongZone = refl
reason_positive NoSuchDate = refl
reason_positive OtherKey = refl
reason_positive SecondMmo = refl
reason_positive DatesOutOfOrder = refl
reason_positive WrongSum = refl
reason_positive OpenStatement = refl
reason_positive TooLongStatement = refl
reason_positive NoSuchStatement = refl
reason_positive NoSuchMovement = refl
reason_positive ShortTable = refl
reason_positive NoSuchFile = refl
reason_positive ShortOutput = refl
reason_positive UnsoundJournal = refl
reason_positive NotNext = refl
reason_positive FullContents = refl
reason_positive FullJournal = refl
reason_positive NoSuchEntry = refl
reason_positive NoSpan = refl
