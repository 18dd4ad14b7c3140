use Rattle.std.proofs.Common.{ℕ, ◌+◌, ◌-◌, ◌<◌, min, List, ◌++◌, get_or, take, drop, replicate, ap, ◌∙◌, rules}
use borrow.Rule.Slice.PartMut.{put_mid}
use Rattle.passes.proofs.Parts.{chip_written}
use Rattle.passes.proofs.chip.write_chip.Goals as goal

pub returns : goal.returns
returns c =
    let xs = c.args.serial.now in
    let k = c.min-k.result in
    let m = c.copy_from_slice-2.new.self in
    let low : (i : ℕ) → get_or xs i 0 < 256 = λ i. search rules in
    let h = simp (c.to_be_bytes-i.ensures, c.into.ensures) at c.copy_from_slice.ensures.after in
    ap (λ (p : List ℕ). take (min 23 (3 + c.max.result)) (put_mid 3 (3 + k - 3) (p ++ drop 3 (replicate 23 0)) m)) h
    ∙ chip_written _ _ _ xs m k c.max.result low c.min-k.ensures c.max.ensures c.copy_from_slice-2.ensures.after
