-- The kinds of pass, each named by the first byte of its written forms.
use Rattle.std.specs.Prelude.{◌≡◌, ℕ, cond, Some, None, Option, Result, MatchResult, ◌==◌}
use Rattle.refusals.specs.declared.Reason.{Reason}
use Rattle.refusals.specs.declared.Reason.TheVariants.{BadValue}
use Rattle.passes.specs.declared.kind.PassKind.{PassKind}
use Rattle.passes.specs.declared.kind.PassKind.TheVariants.{Tag, Chip}

abbrev pub kind_byte : PassKind → ℕ
kind_byte Tag = 0x54
kind_byte Chip = 0x43

abbrev pub kind_of : ℕ → Option PassKind
kind_of n = cond (n == 0x54) (Some Tag) (cond (n == 0x43) (Some Chip) None)

-- the kind that a byte names, or that it names none
abbrev pub NamesKind : ℕ → Result PassKind Reason → Type 0
NamesKind n r = MatchResult r (λ kind. kind_of n ≡ Some kind) (λ e. (kind_of n ≡ None) × (e ≡ BadValue))
