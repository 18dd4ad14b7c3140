-- The answer of a try to place a fingerprint, with the cells it leaves.
use Rattle.std.specs.Prelude.{ℕ, Bool, cond, List, Some, None, Option}

abbrev pub tried : Bool → List ℕ → Option (List ℕ)
tried found cells = cond found (Some cells) None
