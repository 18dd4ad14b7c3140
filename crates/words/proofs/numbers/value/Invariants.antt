use Rattle.std.proofs.Common.{◌≡◌, ◌^◌, ◌<◌, drop}
use Rattle.words.specs.Numbers.{reads}
use Rattle.words.proofs.numbers.value.Given as goal

-- what is left gives the answer, and i digits write less than 10 ^ i
abbrev pub invariant-loop-byte : goal.invariant-loop-byte
invariant-loop-byte l = (reads l.value (drop l.byte-index l.digits) ≡ reads 0 l.digits) × (l.value < 10 ^ l.byte-index)
