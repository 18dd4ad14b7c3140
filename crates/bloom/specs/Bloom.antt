-- The Bloom filter as a kind of filter.
use Rattle.std.specs.Prelude.{◌*◌, Bool, List, ℕ, Some}
use Rattle.passes.specs.declared.identifier.HashPair.{HashPair}
use Rattle.filters.specs.declared.Settings.{Settings}
use Rattle.filters.specs.Kind.{Kind}
use Rattle.filters.specs.Tables.{TableView, Scheme, table_view, with_table, table_kind}
use Rattle.bloom.specs.Bits.{with_all, has_all}
use Rattle.bloom.specs.Setting.{bloom_measures}

-- the settings, and the bytes of the table in use
abbrev pub BloomView : Type 0
BloomView = TableView

-- 8 bits a byte, and k positions: all of a hash pair's are set
abbrev pub says_pair : BloomView → HashPair → Bool
says_pair v h = has_all h.h1 h.h2 (8 * v.settings.size) v.settings.hashing.hashes v.table

-- the same view with a hash pair's positions set
abbrev pub with_pair : BloomView → HashPair → BloomView
with_pair v h = with_table v (with_all h.h1 h.h2 (8 * v.settings.size) v.settings.hashing.hashes v.table)

-- a table of 1 byte before any clear; every put is taken
abbrev pub bloom_scheme : Scheme
bloom_scheme = record { measures = bloom_measures; first = 1; says = says_pair; puts = λ v h. Some (with_pair v h).table }

abbrev pub bloom_kind : Kind BloomView
bloom_kind = table_kind bloom_scheme

-- the view of settings and a table of which the front is in use
abbrev pub bloom_view : Settings → List ℕ → BloomView
bloom_view = table_view
