-- The makes of levels, and the numbers that name them.
use Rattle.std.specs.Prelude.{◌≡◌, ℕ, cond, Some, None, Option, Result, MatchResult, ◌==◌}
use Rattle.desk.specs.declared.faults.Fault.{Fault}
use Rattle.desk.specs.declared.faults.Fault.TheVariants.{NoSuchMake}
use Rattle.desk.specs.declared.any_levels.Make.{Make}
use Rattle.desk.specs.declared.any_levels.Make.TheVariants.{AllBloom, CuckooFirst}
use Rattle.desk.specs.declared.any_levels.AnyLevels.{AnyLevels}
use Rattle.desk.specs.declared.any_levels.AnyLevels.TheVariants.{AllBloom as Bloom, CuckooFirst as Cuckoo}

abbrev pub make_named : ℕ → Option Make
make_named n = cond (n == 1) (Some AllBloom) (cond (n == 2) (Some CuckooFirst) None)

-- the make that a number names, or that it names none
abbrev pub NamesMake : ℕ → Result Make Fault → Type 0
NamesMake n r = MatchResult r (λ make. make_named n ≡ Some make) (λ e. (make_named n ≡ None) × (e ≡ NoSuchMake))

abbrev pub make_of : AnyLevels → Make
make_of (Bloom b) = AllBloom
make_of (Cuckoo b) = CuckooFirst
