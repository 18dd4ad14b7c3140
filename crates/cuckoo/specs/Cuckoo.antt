-- The cuckoo filter as a kind of filter.
use Rattle.std.specs.Prelude.{ℕ, ◌/◌, ◌%◌, Bool, List, Option}
use Rattle.passes.specs.declared.identifier.HashPair.{HashPair}
use Rattle.filters.specs.declared.Settings.{Settings}
use Rattle.filters.specs.Kind.{Kind}
use Rattle.filters.specs.Tables.{TableView, Scheme, pair_of, table_view, table_kind}
use Rattle.cuckoo.specs.Cells.{fingerprint, partner, stands, stored}
use Rattle.cuckoo.specs.Setting.{cuckoo_measures}

-- the settings, and the cells of the table in use
abbrev pub CuckooView : Type 0
CuckooView = TableView

abbrev pub buckets : Settings → ℕ
buckets s = s.size / 4

-- the first bucket of a hash pair
abbrev pub bucket_of : Settings → HashPair → ℕ
bucket_of s h = h.h1 % buckets s

-- its fingerprint stands in its first bucket or the partner
abbrev pub says_pair : CuckooView → HashPair → Bool
says_pair v h = stands (partner (buckets v.settings)) v.table (bucket_of v.settings h) (fingerprint h.h2)

-- the cells after a put, if it is taken
abbrev pub stored_pair : CuckooView → HashPair → Option (List ℕ)
stored_pair v h = stored (partner (buckets v.settings)) v.table (bucket_of v.settings h) (fingerprint h.h2)

abbrev pub cuckoo_says : Settings → List ℕ → List ℕ → Bool
cuckoo_says s cells x = says_pair (record { settings = s; table = cells }) (pair_of s x)

abbrev pub cuckoo_put : Settings → List ℕ → List ℕ → Option (List ℕ)
cuckoo_put s cells x = stored_pair (record { settings = s; table = cells }) (pair_of s x)

-- one bucket before any clear
abbrev pub cuckoo_scheme : Scheme
cuckoo_scheme = record { measures = cuckoo_measures; first = 4; says = says_pair; puts = stored_pair }

abbrev pub cuckoo_kind : Kind CuckooView
cuckoo_kind = table_kind cuckoo_scheme

-- the view of settings and cells of which the front is in use
abbrev pub cuckoo_view : Settings → List ℕ → CuckooView
cuckoo_view = table_view
