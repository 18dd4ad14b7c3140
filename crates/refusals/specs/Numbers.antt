-- The number of each reason to refuse. The tens name the layer: 1 fields, 2 gate, 3 publisher, 4 sheets, 5 identifiers.
use Rattle.std.specs.Prelude.{ℕ}
use Rattle.refusals.specs.declared.Reason.{Reason}
use Rattle.refusals.specs.declared.Reason.TheVariants.{CutShort, WrongTag, BadLength, BadValue, NotAscending, WrongCheck, BytesLeft, OtherNumber, OtherStep, TooManyRows, OtherMake, EmptyRegister, LongRegister, UnsortedRegister, BadSetting, BadCoverage, NotTaken, NoRoom, ShortOutput, TooManyWords, NoWord, BadSerial}
use Rattle.refusals.specs.declared.Refusal.{Refusal}

abbrev pub number_of : Reason → ℕ
number_of CutShort = 11
number_of WrongTag = 12
number_of BadLength = 13
number_of BadValue = 14
number_of NotAscending = 15
number_of WrongCheck = 16
number_of BytesLeft = 17
number_of OtherNumber = 21
number_of OtherStep = 22
number_of TooManyRows = 23
number_of OtherMake = 24
number_of EmptyRegister = 31
number_of LongRegister = 32
number_of UnsortedRegister = 33
number_of BadSetting = 34
number_of BadCoverage = 35
number_of NotTaken = 36
number_of NoRoom = 37
number_of ShortOutput = 42
number_of TooManyWords = 44
number_of NoWord = 45
number_of BadSerial = 51

-- a refusal of a field: its tag, and the place of its first byte
abbrev pub refused : Reason → ℕ → ℕ → Refusal
refused r tag place = record { reason = r; tag = tag; place = place }

-- a refusal that names no field: tag 0, place 0
abbrev pub plain : Reason → Refusal
plain r = refused r 0 0
