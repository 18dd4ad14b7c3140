use Rattle.std.proofs.Common.{◌≡◌, ℕ, ◌+◌, ◌%◌, ◌<◌, length, get_or, take, sym, ap, ◌∙◌, arith, rules}
use native.Mathlib.Nat.{sub-zero}
use Rattle.passes.proofs.Parts.{firsts_take}
use Rattle.passes.proofs.chip.ChipPass.serial_bytes.Goals as goal

pub returns : goal.returns
returns c =
    let me = c.args.self.now in
    let xs = me.serial in
    let k = 1 + me.n % 20 in
    let long : length xs ≡ 20 = search rules in
    let low : (i : ℕ) → get_or xs i 0 < 256 = λ i. search rules in
    ap (λ (j : ℕ). take j xs) (sub-zero k) ∙ sym (firsts_take k xs (omega arith) low)
