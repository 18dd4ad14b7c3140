-- The two hashes of a written form at a salt and level.
use Rattle.std.specs.Prelude.{ℕ, ◌+◌, ◌*◌, ◌^◌, List}
use Rattle.murmur.specs.Hash.{murmur}
use Rattle.passes.specs.declared.identifier.HashPair.{HashPair}

abbrev pub first_seed : ℕ → ℕ → ℕ
first_seed salt level = 256 * salt + level

abbrev pub second_seed : ℕ → ℕ → ℕ
second_seed salt level = first_seed salt level + 2 ^ 24

abbrev pub hash_pair : ℕ → ℕ → List ℕ → HashPair
hash_pair salt level form = record { h1 = murmur (first_seed salt level) form; h2 = murmur (second_seed salt level) form }
