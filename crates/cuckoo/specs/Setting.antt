-- The settings that a cuckoo filter allows.
use Rattle.std.specs.Prelude.{ℕ, Bool, ◌&&◌, nat_le}
use Rattle.filters.specs.Kind.{hashes_allowed}
use Rattle.cuckoo.specs.Powers.{power_of_two}

-- 1 to 512 buckets of four bytes, a power of two
abbrev pub cuckoo_measures : ℕ → Bool
cuckoo_measures size = nat_le 4 size && (nat_le size 2048 && power_of_two size)

abbrev pub cuckoo_allows : ℕ → ℕ → Bool
cuckoo_allows size hashes = cuckoo_measures size && hashes_allowed hashes
