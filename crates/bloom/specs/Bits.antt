-- The bits of a table of bytes, and the positions of an identifier in a Bloom filter.
use Rattle.std.specs.Prelude.{◌≡◌, ℕ, zero, suc, ◌+◌, ◌*◌, ◌/◌, ◌%◌, ◌^◌, ◌<◌, Bool, true, ◌&&◌, ◌⊎◌, List, length, Decides, ◌==◌, bit_or, slice_index, slice_set}

-- bit n has the weight 2^(n mod 8) in byte n / 8
unfoldable pub bit : List ℕ → ℕ → Bool
bit table n = slice_index table (n / 8) / 2 ^ (n % 8) % 2 == 1

unfoldable pub with_bit : List ℕ → ℕ → List ℕ
with_bit table n = slice_set table (n / 8) (bit_or (slice_index table (n / 8)) (2 ^ (n % 8)))

-- position i of hashes h1 and h2 among N bits, in exact whole numbers
abbrev pub position : ℕ → ℕ → ℕ → ℕ → ℕ
position h1 h2 N i = (h1 + i * h2) % N

-- the table with the first k positions set
abbrev pub with_all : ℕ → ℕ → ℕ → ℕ → List ℕ → List ℕ
with_all h1 h2 N zero table = table
with_all h1 h2 N (suc k) table = with_bit (with_all h1 h2 N k table) (position h1 h2 N k)

-- all of the first k positions are set
abbrev pub has_all : ℕ → ℕ → ℕ → ℕ → List ℕ → Bool
has_all h1 h2 N zero table = true
has_all h1 h2 N (suc k) table = has_all h1 h2 N k table && bit table (position h1 h2 N k)

-- What setting k positions of a table means, bit by bit: those bits are set, and every other is as it was.
abbrev pub SetsThese : Type 0
SetsThese = (h1 h2 k n : ℕ) (table : List ℕ) → n < 8 * length table → Decides (bit (with_all h1 h2 (8 * length table) k table) n) ((bit table n ≡ true) ⊎ ((i : ℕ) × (i < k) × (n ≡ position h1 h2 (8 * length table) i)))
