-- The list of refusals: the number of each reason, and the reason of each number.
use Rattle.std.specs.Prelude.{ℕ, ◌-◌, List, [], ◌∷◌, slice_index_or}
use Rattle.framing.specs.declared.refusals.Reason.{Reason}
use Rattle.framing.specs.declared.refusals.Reason.TheVariants.{UnknownLineEnd, UnevenLength, TooManyRecords, WrongLineEnd, ForbiddenByte, UnknownCode, OutOfPlace, WrongZone, NoSuchDate, OtherKey, SecondMmo, DatesOutOfOrder, WrongSum, OpenStatement, TooLongStatement, NoSuchStatement, NoSuchMovement, ShortTable, NoSuchFile, ShortOutput, UnsoundJournal, NotNext, FullContents, FullJournal, NoSuchEntry, NoSpan}
use Rattle.framing.specs.declared.refusals.Refusal.{Refusal}

abbrev pub reason_number : Reason → ℕ
reason_number UnknownLineEnd = 1
reason_number UnevenLength = 2
reason_number TooManyRecords = 3
reason_number WrongLineEnd = 4
reason_number ForbiddenByte = 5
reason_number UnknownCode = 6
reason_number OutOfPlace = 7
reason_number WrongZone = 8
reason_number NoSuchDate = 9
reason_number OtherKey = 10
reason_number SecondMmo = 11
reason_number DatesOutOfOrder = 12
reason_number WrongSum = 13
reason_number OpenStatement = 14
reason_number TooLongStatement = 15
reason_number NoSuchStatement = 16
reason_number NoSuchMovement = 17
reason_number ShortTable = 18
reason_number NoSuchFile = 19
reason_number ShortOutput = 20
reason_number UnsoundJournal = 21
reason_number NotNext = 22
reason_number FullContents = 23
reason_number FullJournal = 24
reason_number NoSuchEntry = 25
reason_number NoSpan = 27

-- the reasons 1 to 25, in their order
unfoldable pub listed : List Reason
listed =
    UnknownLineEnd ∷ UnevenLength ∷ TooManyRecords ∷ WrongLineEnd ∷ ForbiddenByte ∷
    UnknownCode ∷ OutOfPlace ∷ WrongZone ∷ NoSuchDate ∷ OtherKey ∷
    SecondMmo ∷ DatesOutOfOrder ∷ WrongSum ∷ OpenStatement ∷ TooLongStatement ∷
    NoSuchStatement ∷ NoSuchMovement ∷ ShortTable ∷ NoSuchFile ∷ ShortOutput ∷
    UnsoundJournal ∷ NotNext ∷ FullContents ∷ FullJournal ∷ NoSuchEntry ∷ []

-- the reason of a number of the list: of 1 to 25 in their order, of a larger one 27's
unfoldable pub reason_of : ℕ → Reason
reason_of n = slice_index_or listed (n - 1) NoSpan

-- a refusal by its number and its record
abbrev pub refusal_of : (number at : ℕ) → Refusal
refusal_of n r = record { reason = reason_of n; «record» = r }

abbrev pub refusal_by : Reason → (at : ℕ) → Refusal
refusal_by u r = record { reason = u; «record» = r }
