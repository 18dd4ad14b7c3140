-- What new levels are, by what they come from.
use Rattle.std.specs.Prelude.{◌≡◌, ℕ, Ok}
use Rattle.levels.specs.Rows.{listed}
use Rattle.levels.specs.Deciders.{Decides}
use Rattle.piles.specs.Tries.{built_in}
use Rattle.desk.specs.declared.any_levels.Source.{Source}
use Rattle.desk.specs.declared.any_levels.Source.TheVariants.{Register, Fields}
use Rattle.desk.specs.Passes.{pass_form}

-- a state and the salt of level 1: a register built by its plan, or the fields read under their salt
abbrev pub ComesOf : {S : Type 0} → Decides S → Source → S → ℕ → Type 0
ComesOf d (Register plan list room) s salt = built_in d (record { salt = plan.salt; level = 1; hashes = plan.hashes }) plan.sizes (listed pass_form list.now) room ≡ Ok (salt, s)
ComesOf d (Fields hashing input) s salt = (salt ≡ hashing.salt) × ((n : ℕ) × (d.loads hashing input.now 0 ≡ Ok (s, n)))
