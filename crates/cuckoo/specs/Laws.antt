-- What holds of a cuckoo table besides the rules of a filter.
use Rattle.std.specs.Prelude.{◌≡◌, ℕ, ◌^◌, ◌<◌, true, List, Some}
use Rattle.filters.specs.declared.Settings.{Settings}
use Rattle.cuckoo.specs.Cells.{partner}
use Rattle.cuckoo.specs.Powers.{Powers}
use Rattle.cuckoo.specs.Cuckoo.{cuckoo_says, cuckoo_put}

pub record CuckooLaws : Type 0 where
  -- the partner of a bucket is a bucket, and the partner's partner is the bucket itself
  pub partners : (b e i f : ℕ) → b ≡ 2 ^ e → i < b → (partner b i f < b) × (partner b (partner b i f) f ≡ i)
  -- the table sizes allowed are powers of two
  pub sizes : Powers
  -- a put of an identifier that is found already is taken and changes nothing
  pub found : (s : Settings) (cells x : List ℕ) → cuckoo_says s cells x ≡ true → cuckoo_put s cells x ≡ Some cells
