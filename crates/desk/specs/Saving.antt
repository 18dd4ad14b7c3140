-- What a save writes to the front of an output.
use Rattle.std.specs.Prelude.{◌≡◌, ℕ, List, take, Some, Option}
use Rattle.std.specs.Fn.{FnOnceReturnsAtMut}
use denote.Param.Members.{Once}
use denote.Ref.{MutBor}

-- bytes that it wrote, as many as it says
pub record Saves {F : Type 0} (g : Once F (MutBor (List ℕ) × Unit {0}) (Option ℕ × (MutBor (List ℕ) × Unit {0}))) (f : F) (bytes : List ℕ) : Type 0 where
  pub before : List ℕ
  pub after : List ℕ
  pub said : Option ℕ
  pub many : ℕ
  pub wrote : FnOnceReturnsAtMut g f before said after
  pub so : said ≡ Some many
  pub front : bytes ≡ take many after
