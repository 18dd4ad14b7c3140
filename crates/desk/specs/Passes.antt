-- The written form of a pass of either kind.
use Rattle.std.specs.Prelude.{ℕ, List}
use Rattle.passes.specs.Forms.{tag_form, stored_form}
use Rattle.passes.specs.Lawful.{Lawful, tag_lawful, stored_lawful}
use Rattle.passes.specs.declared.kind.PassKind.{PassKind}
use Rattle.passes.specs.declared.kind.PassKind.TheVariants.{Tag as TagKind, Chip as ChipKind}
use Rattle.desk.specs.declared.pass.Pass.{Pass}
use Rattle.desk.specs.declared.pass.Pass.TheVariants.{Tag, Chip}

abbrev pub pass_form : Pass → List ℕ
pass_form (Tag t) = tag_form t
pass_form (Chip c) = stored_form c

-- its kind
abbrev pub pass_kind : Pass → PassKind
pass_kind (Tag t) = TagKind
pass_kind (Chip c) = ChipKind

pub pass_lawful : (p : Pass) → Lawful (pass_form p)
pass_lawful (Tag t) = tag_lawful t
pass_lawful (Chip c) = stored_lawful c
