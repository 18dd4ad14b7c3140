-- What a filter of some kind means.
use Rattle.std.specs.Prelude.{◌≡◌, ◌≢◌, ℕ, Bool, List, [], ◌∷◌, take, box_value, Option, Result, MatchResult}
use Rattle.desk.specs.declared.faults.Fault.{Fault}
use Rattle.desk.specs.declared.faults.Fault.TheVariants.{Usage}
use Rattle.refusals.specs.declared.Refusal.{Refusal}
use Rattle.filters.specs.declared.Settings.{Settings}
use Rattle.filters.specs.Kind.{allowed}
use Rattle.filters.specs.Answers.{after_put, after_load}
use Rattle.bloom.specs.Bloom.{BloomView, bloom_view, bloom_kind}
use Rattle.bloom.specs.declared.table.Bloom.{Bloom as BloomTable}
use Rattle.cuckoo.specs.Cuckoo.{CuckooView, cuckoo_view, cuckoo_kind}
use Rattle.cuckoo.specs.declared.table.Cuckoo.{Cuckoo as CuckooTable}
use Rattle.exact.specs.Exact.{ExactView, exact_view, exact_kind}
use Rattle.exact.specs.declared.table.ExactList.{ExactList}
use Rattle.std.specs.Option.{option_map}
use Rattle.desk.specs.declared.kinds.Kind.{Kind as FilterKind}
use Rattle.desk.specs.declared.kinds.Kind.TheVariants.{Bloom as BloomKind, Cuckoo as CuckooKind, Exact as ExactKind}
use Rattle.desk.specs.declared.kinds.AnyFilter.{AnyFilter}
use Rattle.desk.specs.declared.kinds.AnyFilter.TheVariants.{Bloom, Cuckoo, Exact}

pub data AnyView : Type 0 where
  a_bloom : BloomView → AnyView
  a_cuckoo : CuckooView → AnyView
  an_exact : ExactView → AnyView

abbrev pub bloom_means : BloomTable → BloomView
bloom_means b = bloom_view b.table.settings b.table.buffer

abbrev pub cuckoo_means : CuckooTable → CuckooView
cuckoo_means c = cuckoo_view c.table.settings c.table.buffer

abbrev pub exact_means : ExactList → ExactView
exact_means e = exact_view e.hashing (take e.len e.table)

abbrev pub any_view : AnyFilter → AnyView
any_view (Bloom b) = a_bloom (bloom_means (box_value b))
any_view (Cuckoo b) = a_cuckoo (cuckoo_means (box_value b))
any_view (Exact b) = an_exact (exact_means (box_value b))

-- the settings under which it stands, the passes that it says yes to, and the bytes that it saves
abbrev pub any_settings : AnyView → Settings
any_settings (a_bloom v) = bloom_kind.settings v
any_settings (a_cuckoo v) = cuckoo_kind.settings v
any_settings (an_exact v) = exact_kind.settings v

abbrev pub any_says : AnyView → List ℕ → Bool
any_says (a_bloom v) x = bloom_kind.says v x
any_says (a_cuckoo v) x = cuckoo_kind.says v x
any_says (an_exact v) x = exact_kind.says v x

abbrev pub any_saved : AnyView → List ℕ
any_saved (a_bloom v) = bloom_kind.saved v
any_saved (a_cuckoo v) = cuckoo_kind.saved v
any_saved (an_exact v) = exact_kind.saved v

-- the word that names a kind
abbrev pub kind_word : FilterKind → List ℕ
kind_word BloomKind = 98 ∷ 108 ∷ 111 ∷ 111 ∷ 109 ∷ []
kind_word CuckooKind = 99 ∷ 117 ∷ 99 ∷ 107 ∷ 111 ∷ 111 ∷ []
kind_word ExactKind = 101 ∷ 120 ∷ 97 ∷ 99 ∷ 116 ∷ []

-- the kind that a word names, or that it names none
abbrev pub NamesKind : List ℕ → Result FilterKind Fault → Type 0
NamesKind word r = MatchResult r (λ kind. word ≡ kind_word kind) (λ e. (e ≡ Usage) × ((kind : FilterKind) → word ≢ kind_word kind))

-- a cleared filter of a kind, and whether its settings are allowed
abbrev pub any_cleared : FilterKind → Settings → AnyView
any_cleared BloomKind s = a_bloom (bloom_kind.cleared s)
any_cleared CuckooKind s = a_cuckoo (cuckoo_kind.cleared s)
any_cleared ExactKind s = an_exact (exact_kind.cleared s)

abbrev pub any_allows : FilterKind → Settings → Bool
any_allows BloomKind s = allowed bloom_kind s
any_allows CuckooKind s = allowed cuckoo_kind s
any_allows ExactKind s = allowed exact_kind s

-- the answer to a put, and the filter after it
abbrev pub any_put : AnyView → List ℕ → Bool × AnyView
any_put (a_bloom v) x = let after = after_put bloom_kind v x in (after.0, a_bloom after.1)
any_put (a_cuckoo v) x = let after = after_put cuckoo_kind v x in (after.0, a_cuckoo after.1)
any_put (an_exact v) x = let after = after_put exact_kind v x in (after.0, an_exact after.1)

-- the answer to a load under its present salt, level and hash count, and the filter after it
abbrev pub any_load : AnyView → List ℕ → Result (Unit {0}) Refusal × AnyView
any_load (a_bloom v) body = let after = after_load bloom_kind v (bloom_kind.settings v).hashing body in (after.0, a_bloom after.1)
any_load (a_cuckoo v) body = let after = after_load cuckoo_kind v (cuckoo_kind.settings v).hashing body in (after.0, a_cuckoo after.1)
any_load (an_exact v) body = let after = after_load exact_kind v (exact_kind.settings v).hashing body in (after.0, an_exact after.1)

abbrev pub held_view : Option AnyFilter → Option AnyView
held_view o = option_map any_view o
