-- The check written behind the bytes of an output.
use Rattle.std.specs.Prelude.{ℕ, ◌+◌, cond, List, ◌++◌, length, take, drop, Some, None, Option, nat_le}
use Rattle.fields.specs.Reading.{checked}

-- where the check of the bytes before a place ends, and the output with it, if it fits
abbrev pub sealed : ℕ → List ℕ → Option ℕ × List ℕ
sealed end out = cond (nat_le (end + 7) (length out)) (Some (end + 7), checked (take end out) ++ drop (end + 7) out) (None, out)
