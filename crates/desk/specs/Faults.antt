-- Commands that were not done.
use Rattle.std.specs.Prelude.{Bool, true, false, Ok, Err, Result}
use Rattle.desk.specs.declared.faults.Fault.{Fault}
use Rattle.desk.specs.declared.faults.Fault.TheVariants.{Memory, Usage, NumberTooLarge, NoSuchBuffer, BufferTooLong, NoFilter, RegisterMixed, RegisterFull, PastTheEnd, NoPlan, NoSuchMake, NoLevels, Refused}

abbrev pub foreseen : Fault → Bool
foreseen (Memory e) = false
foreseen Usage = true
foreseen NumberTooLarge = true
foreseen NoSuchBuffer = true
foreseen BufferTooLong = true
foreseen NoFilter = true
foreseen RegisterMixed = true
foreseen RegisterFull = true
foreseen PastTheEnd = true
foreseen NoPlan = true
foreseen NoSuchMake = true
foreseen NoLevels = true
foreseen (Refused r) = true

-- a command was not done, for another reason than want of memory
abbrev pub undone : {X : Type 0} → Result X Fault → Bool
undone (Ok x) = false
undone (Err f) = foreseen f
