use Rattle.std.proofs.Common.{ℕ, ◌-◌, ◌<◌, List, length, get_or, refl, ap, ◌∙◌, rules}
use Rattle.passes.specs.declared.chip.ChipPass.{ChipPass}
use Rattle.passes.specs.Forms.{stored_form}
use Rattle.passes.proofs.Parts.{over_zeros, stored_plain}
use Rattle.passes.proofs.chip.stored.Goals as goal

pub returns : goal.returns
returns c =
    let xs = c.args.serial.now in
    let k = length xs in
    let low : (i : ℕ) → get_or xs i 0 < 256 = λ i. search rules in
    let z = over_zeros xs c.copy_from_slice.new.self k c.copy_from_slice.ensures.after refl in
    let made : List ℕ → ChipPass = λ s. record { issuer = c.args.issuer; n = k - 1; serial = s } in
    record {
      is = ap made z;
      form = ap (λ (s : List ℕ). stored_form (made s)) z ∙ stored_plain c.args.issuer xs low c.requires.0 c.requires.1;
    }
