use Rattle.std.proofs.Common.{ℕ, ◌-◌, ◌<◌, Some, length, get_or, take, drop, refl, sym, ap, ◌∙◌, rules}
use Rattle.passes.specs.declared.kind.PassKind.{PassKind}
use Rattle.passes.specs.Lawful.{lawful_length}
use Rattle.passes.proofs.Shapes.{chip_back, chip_named}
use Rattle.passes.proofs.reading.read_form.Goals as goal

pub returns-in-Chip-clause-form : goal.returns-in-Chip-clause-form
returns-in-Chip-clause-form c =
    let xs = c.args.bytes.now in
    let low : (i : ℕ) → get_or xs i 0 < 256 = λ i. search rules in
    let size = lawful_length (c.if-not-is_lawful.ensures.meaning.0 refl) in
    let first = chip_named _ c.try_from.result c.try_from.ensures (ap (λ (k : PassKind). Some k) (sym c.in-Chip.is) ∙ sym c.in_ok-ok.was ∙ c.ok.ensures.value) in
    chip_back xs low c.issuer_of-issuer.result (take (length xs - 3) (drop 3 xs)) size.0 size.1 first c.issuer_of-issuer.ensures refl
