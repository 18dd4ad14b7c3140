-- Making a chip pass from an issuer and a serial.
use Rattle.std.specs.Prelude.{ℕ, ◌-◌, Bool, cond, ◌&&◌, List, ◌++◌, length, replicate, Ok, Err, Result, nat_le}
use Rattle.refusals.specs.declared.Refusal.{Refusal}
use Rattle.refusals.specs.declared.Reason.TheVariants.{BadSerial}
use Rattle.refusals.specs.Numbers.{plain}
use Rattle.passes.specs.declared.chip.ChipPass.{ChipPass}

-- a serial has 1 to 20 bytes
abbrev pub serial_fits : List ℕ → Bool
serial_fits serial = nat_le 1 (length serial) && nat_le (length serial) 20

-- issuer 0, serial 0x00
abbrev pub first_chip : ChipPass
first_chip = record { issuer = 0; n = 0; serial = replicate 20 0 }

-- the serial in front, zeros behind it
abbrev pub chip_of : ℕ → List ℕ → ChipPass
chip_of issuer serial = record { issuer = issuer; n = length serial - 1; serial = serial ++ replicate (20 - length serial) 0 }

-- the answer, and the pass held then
abbrev pub filled : ChipPass → ℕ → List ℕ → Result (Unit {0}) Refusal × ChipPass
filled held issuer serial = cond (serial_fits serial) (Ok tt, chip_of issuer serial) (Err (plain BadSerial), held)
