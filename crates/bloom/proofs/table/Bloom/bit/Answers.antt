use Rattle.std.proofs.Common.{ℕ, ◌/◌, ◌%◌, ◌^◌, List, get_or, eqb, ap, ◌∙◌}
use lib.Bits.{bit_and}
use Rattle.bloom.proofs.Steps.{bit_test}
use Rattle.bloom.proofs.table.Bloom.bit.Goals as goal

pub returns : goal.returns
returns c =
    let n = c.args.n in
    let test : List ℕ → _ = λ t. eqb (bit_and (get_or t (n / 8) 0 / 2 ^ (n % 8)) 1) 1 in
    ap test c.front.ensures ∙ bit_test _ n
