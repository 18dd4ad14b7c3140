-- Places at equal distances. Assumes nothing.
use Rattle.std.proofs.Common.{ℕ, ◌-◌, ◌*◌, ◌<◌, ◌≤◌, mul-le-mul_left, arith}

-- none of so many places lies beyond the last
pub reach : (step i count : ℕ) → i < count → step * i ≤ step * (count - 1)
reach step i count l = let before : i ≤ count - 1 = omega arith in mul-le-mul_left step before
