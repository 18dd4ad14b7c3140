use Rattle.std.proofs.Common.{ℕ, ◌+◌, ◌-◌, ◌/◌, ◌%◌, List, [], ◌∷◌, ◌++◌, length, take, drop, Some, Option, refl, ap, ◌∙◌, arith, length-drop}
use Rattle.passes.proofs.Outputs.{Wrote, wrote_fits, wrote_to as writes, chain, behind}
use borrow.Rule.Slice.PartMut.{put_mid}
use Rattle.levels.proofs.tables.write_table.Goals as goal

pub returns : goal.returns
returns g c =
    let out = c.args.out.now in
    let tag = c.args.tag in
    let saved = g.F.Filter.kind.saved (g.F.Filter.view c.args.filter.now) in
    let n = c.saved_len-n.result in
    let three = tag ∷ (length saved / 256 % 256) ∷ (length saved % 256) ∷ [] in
    let head = c.copy_from_slice.ensures.after ∙ c.header.ensures ∙ ap (λ (k : ℕ). tag ∷ (k / 256 % 256) ∷ (k % 256) ∷ []) c.saved_len-n.ensures in
    let out1 = c.copy_from_slice.new.self ++ drop 3 out in
    let first : Wrote three out out1 3 = record { size = refl; room = omega (arith, c.if-out-lt3.false); bytes = ap (λ (h : List ℕ). h ++ drop 3 out) head } in
    let left = behind three out out1 3 first in
    let second = wrote_fits saved (take (length out1 - 3) (drop 3 out1)) c.save.new.out c.save.result c.save.ensures (omega (arith, ap length left, length-drop 3 out, c.if-out-n.false, c.saved_len-n.ensures)) in
    let now_out = put_mid 3 (length out1 - 3) out1 c.save.new.out in
    let counted : ℕ → Option ℕ × List ℕ = λ k. (Some (3 + k), now_out) in
    ap counted c.saved_len-n.ensures ∙ writes (three ++ saved) out now_out (3 + length saved) (chain three saved out out1 c.save.new.out 3 (length saved) first second)
