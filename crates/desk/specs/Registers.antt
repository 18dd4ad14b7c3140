-- What stands in a register after passes were entered or turned.
use Rattle.std.specs.Prelude.{ℕ, zero, suc, ◌+◌, ◌*◌, ◌%◌, max, cond, List, [], ◌∷◌, ◌++◌, ◌==◌}
use Rattle.levels.specs.declared.Entry.{Entry}
use Rattle.levels.specs.declared.Side.{Side}
use Rattle.levels.specs.declared.Side.TheVariants.{For, Against}
use Rattle.levels.specs.Deciders.{other}
use Rattle.desk.specs.declared.pass.Pass.{Pass}
use Rattle.desk.specs.declared.register.Sides.{Sides}
use Rattle.desk.specs.declared.register.Sides.TheVariants.{All, Every}
use Rattle.desk.specs.declared.span.Span.{Span}
use Rattle.desk.specs.Spans.{pass_at}

-- the side of the pass at a place of a span
abbrev pub side_at : Sides → ℕ → Side
side_at (All side) i = side
side_at (Every distance) i = cond (i % max distance 1 == 0) For Against

-- the first passes of a span, each with its side
unfoldable pub entries : Sides → Span → ℕ → List (Entry Pass)
entries sides s zero = []
entries sides s (suc n) = entries sides s n ++ record { id = pass_at s n; side = side_at sides n } ∷ []

abbrev pub turned_entry : Entry Pass → Entry Pass
turned_entry e = record { id = e.id; side = other e.side }

-- the entry at a place turned
unfoldable pub turned_at : ℕ → List (Entry Pass) → List (Entry Pass)
turned_at i [] = []
turned_at zero (e ∷ l) = turned_entry e ∷ l
turned_at (suc i) (e ∷ l) = e ∷ turned_at i l

-- one after the other, so many entries at equal distances
unfoldable pub turned : ℕ → ℕ → ℕ → List (Entry Pass) → List (Entry Pass)
turned index step zero l = l
turned index step (suc n) l = turned_at (index + step * n) (turned index step n l)
