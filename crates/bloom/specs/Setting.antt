-- The settings that a Bloom filter allows.
use Rattle.std.specs.Prelude.{ℕ, Bool, ◌&&◌, nat_le}
use Rattle.filters.specs.Kind.{hashes_allowed}

-- a table has 1 to 2,048 bytes
abbrev pub bloom_measures : ℕ → Bool
bloom_measures size = nat_le 1 size && nat_le size 2048

abbrev pub bloom_allows : ℕ → ℕ → Bool
bloom_allows size hashes = bloom_measures size && hashes_allowed hashes
