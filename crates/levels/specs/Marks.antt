-- What a pass counts as while a decider is built, and the numbers that say so in work bytes.
use Rattle.std.specs.Prelude.{ℕ, cond, ◌==◌}
use Rattle.levels.specs.declared.Side.{Side}
use Rattle.levels.specs.declared.Side.TheVariants.{For as SideFor, Against as SideAgainst}
use Rattle.levels.specs.declared.mark.Mark.{Mark}
use Rattle.levels.specs.declared.mark.Mark.TheVariants.{For, Against, Out}

abbrev pub mark_number : Mark → ℕ
mark_number For = 1
mark_number Against = 2
mark_number Out = 0

-- every other number leaves a pass out
abbrev pub mark_in : ℕ → Mark
mark_in n = cond (n == 1) For (cond (n == 2) Against Out)

-- the side of a pass in the register
abbrev pub side_mark : Side → Mark
side_mark SideFor = For
side_mark SideAgainst = Against
