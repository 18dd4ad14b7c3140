-- Six levels of any filters over an exact end.
use Rattle.std.specs.Prelude.{◌≡◌, ℕ, ◌%◌, ◌≤◌, List}
use Rattle.filters.specs.Kind.{Kind}
use Rattle.levels.specs.declared.Side.TheVariants.{For, Against}
use Rattle.levels.specs.Deciders.{Decides, Saves, Over, level_decides, level_saves, end_decides, end_saves}
use Rattle.levels.specs.Laws.{Keeps}

-- "for" holds exactly at an even source, and the source is at most m
pub record EvenFor {S : Type 0} (d : Decides S) (m : ℕ) : Type 0 where
  pub even : (s : S) (x : List ℕ) → (d.decides s x).0 ≡ For → (d.decides s x).1 % 2 ≡ 0
  pub odd : (s : S) (x : List ℕ) → (d.decides s x).0 ≡ Against → (d.decides s x).1 % 2 ≡ 1
  pub some : (s : S) (x : List ℕ) → 1 ≤ (d.decides s x).1
  pub most : (s : S) (x : List ℕ) → (d.decides s x).1 ≤ m

abbrev pub SixStates : Type 0 → Type 0 → Type 0 → Type 0 → Type 0 → Type 0 → Type 0 → Type 0
SixStates A B C D E F V = Over A (Over B (Over C (Over D (Over E (Over F V)))))

abbrev pub six : {A B C D E F V : Type 0} → Kind A → Kind B → Kind C → Kind D → Kind E → Kind F → Kind V → Decides (SixStates A B C D E F V)
six a b c d e f v = level_decides a (level_decides b (level_decides c (level_decides d (level_decides e (level_decides f (end_decides v))))))

-- what they save: a table each
abbrev pub six_saves : {A B C D E F V : Type 0} → Kind A → Kind B → Kind C → Kind D → Kind E → Kind F → Kind V → Saves (SixStates A B C D E F V)
six_saves a b c d e f v = level_saves a (level_saves b (level_saves c (level_saves d (level_saves e (level_saves f (end_saves v))))))

-- six levels keep what every decider keeps, and are for exactly at an even source from 1 to 8
pub record SixLaw {S : Type 0} (d : Decides S) : Type 0 where
  pub keeps : Keeps d
  pub even : EvenFor d 8
