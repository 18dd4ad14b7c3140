-- What commands make of the bytes of a buffer.
use Rattle.std.specs.Prelude.{ℕ, ◌-◌, cond, List, ◌++◌, length, take, Ok, Err, Result, bit_xor, nat_le, nat_lt, slice_index, slice_set}
use Rattle.murmur.specs.Hash.{murmur}
use Rattle.fields.specs.Reading.{be4}
use Rattle.desk.specs.declared.faults.Fault.{Fault}
use Rattle.desk.specs.declared.faults.Fault.TheVariants.{PastTheEnd}

-- the byte at an offset is replaced by its exclusive or with another
abbrev pub flipped : ℕ → ℕ → List ℕ → Result (Unit {0}) Fault × List ℕ
flipped offset byte bytes = cond (nat_lt offset (length bytes)) (Ok tt, slice_set bytes offset (bit_xor (slice_index bytes offset) byte)) (Err PastTheEnd, bytes)

-- the first bytes alone are kept
abbrev pub shortened : ℕ → List ℕ → Result (Unit {0}) Fault × List ℕ
shortened n bytes = cond (nat_le n (length bytes)) (Ok tt, take n bytes) (Err PastTheEnd, bytes)

-- the last four bytes are the check of all but the last seven
unfoldable pub with_check : List ℕ → List ℕ
with_check bytes = take (length bytes - 4) bytes ++ be4 (murmur 0 (take (length bytes - 7) bytes))

abbrev pub resealed : List ℕ → Result (Unit {0}) Fault × List ℕ
resealed bytes = cond (nat_le 7 (length bytes)) (Ok tt, with_check bytes) (Err PastTheEnd, bytes)
