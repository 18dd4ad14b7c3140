-- The sides of a word, and the bytes that say them.
use Rattle.std.specs.Prelude.{◌≡◌, ℕ, ◌<◌, ◌≤◌, cond, Result, MatchResult, ◌==◌}
use Rattle.refusals.specs.declared.Reason.{Reason}
use Rattle.refusals.specs.declared.Reason.TheVariants.{BadValue}
use Rattle.sheets.specs.declared.Side.{Side}
use Rattle.sheets.specs.declared.Side.TheVariants.{Good, Blocked}

abbrev pub side_byte : Side → ℕ
side_byte Good = 0
side_byte Blocked = 1

abbrev pub side_of : ℕ → Side
side_of n = cond (n == 0) Good Blocked

-- the side that a byte says, or that it says none
abbrev pub NamesSide : ℕ → Result Side Reason → Type 0
NamesSide n r = MatchResult r (λ side. (n ≤ 1) × (side ≡ side_of n)) (λ e. (1 < n) × (e ≡ BadValue))
