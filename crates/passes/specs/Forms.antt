-- The written form of each kind of identifier.
use Rattle.std.specs.Prelude.{ℕ, ◌+◌, ◌%◌, min, max, List, ◌∷◌, ◌++◌, length, take}
use Rattle.passes.specs.declared.form.Form.{Form}
use Rattle.passes.specs.declared.tag.Tag.{Tag}
use Rattle.passes.specs.declared.chip.ChipPass.{ChipPass}
use Rattle.passes.specs.Bytes.{be2, be8, firsts}

-- the bytes that a form held in memory stands for
abbrev pub spelled : Form → List ℕ
spelled f = take (min 23 f.len) f.bytes

-- a window tag: 0x54, the issuer, the number
abbrev pub tag_form : Tag → List ℕ
tag_form t = 0x54 ∷ (be2 t.issuer ++ be8 t.number)

-- a chip pass: 0x43, the issuer, the serial. A serial is read with at least 1 byte and at most 20,
-- so that the form is lawful whatever the serial is: an empty one counts as 0x00, a longer one by its first 20.
abbrev pub chip_form : ℕ → List ℕ → List ℕ
chip_form issuer serial = 0x43 ∷ (be2 issuer ++ firsts (max (min (length serial) 20) 1) serial)

-- a stored chip pass keeps n for a serial of 1 + n mod 20 bytes
abbrev pub stored_form : ChipPass → List ℕ
stored_form c = chip_form c.issuer (firsts (1 + c.n % 20) c.serial)
