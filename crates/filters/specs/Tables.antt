-- Kinds of filter whose state is a table of bytes, by what such a kind has of its own.
use Rattle.std.specs.Prelude.{ℕ, Bool, true, false, ◌&&◌, List, length, take, replicate, is_some, Some, None, Option, ◌==◌, min}
use Rattle.std.specs.Option.{unwrap_or}
use Rattle.passes.specs.Bytes.{bytes}
use Rattle.passes.specs.Seeds.{hash_pair}
use Rattle.passes.specs.declared.identifier.HashPair.{HashPair}
use Rattle.filters.specs.declared.Hashing.{Hashing}
use Rattle.filters.specs.declared.Settings.{Settings}
use Rattle.filters.specs.Kind.{Kind, fine, hashes_allowed}

-- the settings, and the bytes of the table in use
pub record TableView : Type 0 where
  pub settings : Settings
  pub table : List ℕ

-- what such a kind has of its own; it knows an identifier by its hash pair
pub record Scheme : Type 0 where
  -- the table sizes that it allows
  pub measures : ℕ → Bool
  -- the table size before any clear
  pub first : ℕ
  -- the hash pairs that it says yes to
  pub says : TableView → HashPair → Bool
  -- the table after a put, if it is taken
  pub puts : TableView → HashPair → Option (List ℕ)

-- how a filter hashes before any clear
abbrev pub first_hashing : Hashing
first_hashing = record { salt = 0; level = 1; hashes = 1 }

abbrev pub first_settings : ℕ → Settings
first_settings size = record { hashing = first_hashing; size = size }

-- the hash pair of an identifier under some settings
abbrev pub pair_of : Settings → List ℕ → HashPair
pair_of s x = hash_pair s.hashing.salt s.hashing.level x

-- the view of settings and a table of which the front is in use
abbrev pub table_view : Settings → List ℕ → TableView
table_view s table = record { settings = s; table = take s.size table }

-- the settings with a table size of at most 2,048 bytes
abbrev pub bounded : Settings → Settings
bounded s = record { hashing = s.hashing; size = min s.size 2048 }

-- an empty table
abbrev pub zeroed : Settings → TableView
zeroed s = record { settings = s; table = replicate s.size 0 }

-- another table under the same settings
abbrev pub with_table : TableView → List ℕ → TableView
with_table v table = record { settings = v.settings; table = table }

-- the whole of saved bytes as the table
abbrev pub refilled : Hashing → List ℕ → TableView
refilled h body = record { settings = record { hashing = h; size = length body }; table = body }

-- the answer of a try to change the table, and the view after it
abbrev pub after_try : Option (List ℕ) → TableView → Bool × TableView
after_try (Some table) v = (true, with_table v table)
after_try None v = (false, v)

abbrev pub table_allows : Scheme → ℕ → ℕ → Bool
table_allows k size hashes = k.measures size && hashes_allowed hashes

abbrev pub table_kind : Scheme → Kind TableView
table_kind k = record {
  allows = table_allows k;
  sound = λ v. table_allows k v.settings.size v.settings.hashing.hashes && (length v.table == v.settings.size && bytes v.table);
  ready = λ v. true;
  settings = λ v. v.settings;
  blank = zeroed (first_settings k.first);
  cleared = zeroed;
  says = λ v x. k.says v (pair_of v.settings x);
  takes = λ v x. is_some (k.puts v (pair_of v.settings x));
  put = λ v x. with_table v (unwrap_or (k.puts v (pair_of v.settings x)) v.table);
  saved = λ v. v.table;
  measures = k.measures;
  judges = λ body. fine;
  loaded = refilled;
}
