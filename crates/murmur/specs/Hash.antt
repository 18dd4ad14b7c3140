-- MurmurHash3 x86 32-bit over a list of bytes.
use Rattle.std.specs.Prelude.{ℕ, ◌+◌, ◌-◌, ◌*◌, ◌/◌, ◌%◌, ◌^◌, ◌≡◌, List, [], ◌∷◌, ◌++◌, length}
use Rattle.std.specs.Int.Bits.{bit_or, bit_xor}

-- x, a number of 32 bits, rotated left by n places
abbrev pub rotl : ℕ → ℕ → ℕ
rotl n x = bit_or ((x * 2 ^ n) % 2 ^ 32) (x / 2 ^ (32 - n))

-- a group of bytes, read as a number, before it enters the state
abbrev pub mixed : ℕ → ℕ
mixed k = (rotl 15 ((k * 0xCC9E2D51) % 2 ^ 32) * 0x1B873593) % 2 ^ 32

-- the state after one whole group
abbrev pub folded : ℕ → ℕ → ℕ
folded h k = ((rotl 13 (bit_xor h (mixed k)) * 5) % 2 ^ 32 + 0xE6546B64) % 2 ^ 32

-- four bytes, the low one first
unfoldable pub low_first : ℕ → ℕ → ℕ → ℕ → ℕ
low_first a b c d = a + b * 256 + c * 65536 + d * 16777216

-- the state after all whole groups, and then the 1 to 3 bytes that remain
unfoldable pub absorbed : ℕ → List ℕ → ℕ
absorbed h [] = h
absorbed h (a ∷ []) = bit_xor h (mixed (low_first a 0 0 0))
absorbed h (a ∷ b ∷ []) = bit_xor h (mixed (low_first a b 0 0))
absorbed h (a ∷ b ∷ c ∷ []) = bit_xor h (mixed (low_first a b c 0))
absorbed h (a ∷ b ∷ c ∷ d ∷ rest) = absorbed (folded h (low_first a b c d)) rest

-- h with its own high bits, from bit n on, laid over the low ones
unfoldable pub downed : ℕ → ℕ → ℕ
downed n h = bit_xor h (h / 2 ^ n)

unfoldable pub finished : ℕ → ℕ → ℕ
finished h size = downed 16 ((downed 13 ((downed 16 (bit_xor h size) * 0x85EBCA6B) % 2 ^ 32) * 0xC2B2AE35) % 2 ^ 32)

-- the hash; the length enters modulo 2^32
abbrev pub murmur : ℕ → List ℕ → ℕ
murmur seed xs = finished (absorbed seed xs) (length xs % 2 ^ 32)

-- a whole group of four bytes
pub record Group : Type 0 where
  pub b0 : ℕ
  pub b1 : ℕ
  pub b2 : ℕ
  pub b3 : ℕ

abbrev pub spelled : List Group → List ℕ
spelled [] = []
spelled (g ∷ gs) = g.b0 ∷ g.b1 ∷ g.b2 ∷ g.b3 ∷ spelled gs

-- the state after a list of whole groups, taken one after the other
abbrev pub taken_in : ℕ → List Group → ℕ
taken_in h [] = h
taken_in h (g ∷ gs) = taken_in (folded h (low_first g.b0 g.b1 g.b2 g.b3)) gs

-- Bytes enter the state in whole groups: what follows them is absorbed as if it began there.
abbrev pub ByGroups : Type 0
ByGroups = (h : ℕ) (gs : List Group) (rest : List ℕ) → absorbed h (spelled gs ++ rest) ≡ absorbed (taken_in h gs) rest
