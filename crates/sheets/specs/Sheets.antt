-- What a sheet holds, and its bytes.
use Rattle.std.specs.Prelude.{ℕ, List, [], ◌∷◌, ◌++◌}
use Rattle.passes.specs.Bytes.{be2}
use Rattle.fields.specs.Fields.{field}
use Rattle.fields.specs.Reading.{be4, checked}
use Rattle.sheets.specs.declared.Side.{Side}
use Rattle.sheets.specs.Sides.{side_byte}
use Rattle.sheets.specs.declared.SheetHead.{SheetHead}

pub record Word : Type 0 where
  pub side : Side
  pub form : List ℕ

pub record Sheet : Type 0 where
  pub head : SheetHead
  pub words : List Word

-- edition 1, the publication number, the step
abbrev pub head_field : SheetHead → List ℕ
head_field h = field 0x21 (1 ∷ (be4 h.number ++ be2 h.step))

abbrev pub word_field : Word → List ℕ
word_field w = field 0x22 (side_byte w.side ∷ w.form)

abbrev pub word_fields : List Word → List ℕ
word_fields [] = []
word_fields (w ∷ ws) = word_field w ++ word_fields ws

abbrev pub writes : Sheet → List ℕ
writes s = checked (head_field s.head ++ word_fields s.words)
