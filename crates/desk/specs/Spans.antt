-- The passes of a span.
use Rattle.std.specs.Prelude.{ℕ, ◌+◌, ◌-◌, ◌*◌, min, List, ◌++◌, drop, replicate}
use Rattle.passes.specs.Bytes.{be8}
use Rattle.passes.specs.Made.{first_chip, filled}
use Rattle.passes.specs.declared.chip.ChipPass.{ChipPass}
use Rattle.passes.specs.declared.kind.PassKind.{PassKind}
use Rattle.passes.specs.declared.kind.PassKind.TheVariants.{Tag as TagKind, Chip as ChipKind}
use Rattle.desk.specs.declared.pass.Pass.{Pass}
use Rattle.desk.specs.declared.pass.Pass.TheVariants.{Tag, Chip}
use Rattle.desk.specs.declared.span.Span.{Span}
use Rattle.desk.specs.declared.span.SpanKind.{SpanKind}
use Rattle.desk.specs.declared.span.SpanKind.TheVariants.{Tags, Chips}

-- a serial of so many bytes, 20 at most: the low bytes of a number, high byte first, with zeros in front
abbrev pub serial_of : ℕ → ℕ → List ℕ
serial_of length number = drop (20 - min length 20) (replicate 12 0 ++ be8 number)

-- the chip pass of that serial
abbrev pub numbered : ℕ → ℕ → ℕ → ChipPass
numbered issuer length number = (filled first_chip issuer (serial_of length number)).1

abbrev pub pass_of : SpanKind → ℕ → ℕ → Pass
pass_of Tags issuer number = Tag (record { issuer = issuer; number = number })
pass_of (Chips length) issuer number = Chip (numbered issuer length number)

-- the kind of the passes of a span
abbrev pub kind_of : SpanKind → PassKind
kind_of Tags = TagKind
kind_of (Chips length) = ChipKind

-- the pass at a place, from 0
abbrev pub pass_at : Span → ℕ → Pass
pass_at s i = pass_of s.kind s.issuer (s.numbers.first + s.numbers.step * i)
