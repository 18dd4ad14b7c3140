-- The makes that every reader knows.
use Rattle.std.specs.Prelude.{ℕ, List, [], ◌∷◌}
use Rattle.bloom.specs.Bloom.{bloom_kind}
use Rattle.cuckoo.specs.Cuckoo.{cuckoo_kind}
use Rattle.exact.specs.Exact.{exact_kind}
use Rattle.levels.specs.Deciders.{Table, table_of}
use Rattle.publications.specs.Reading.{Makes, known_makes}

-- a first level over five Bloom filters and an exact list
abbrev pub over_bloom : Table → List Table
over_bloom first = first ∷ table_of bloom_kind ∷ table_of bloom_kind ∷ table_of bloom_kind ∷ table_of bloom_kind ∷ table_of bloom_kind ∷ table_of exact_kind ∷ []

-- make 1 is all Bloom, make 2 has cuckoo at level 1
abbrev pub known : List Table → ℕ → Makes
known mine own = known_makes (over_bloom (table_of bloom_kind)) (over_bloom (table_of cuckoo_kind)) mine own
