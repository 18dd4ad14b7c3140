use mathlib.Core.Path.{sym, ap, ◌∙◌}
use mathlib.Core.List.{List}
use Prim.Native.Nat.{ℕ, ◌+◌, ◌*◌, ◌/◌, ◌<◌}
use lib.ListN.{length, drop}
use lib.Bits.{bit_xor}
use native.Mathlib.Omega.{arith}
use Rattle.murmur.specs.Hash.{absorbed, mixed, low_first}
use Rattle.murmur.proofs.Groups.{group_at, group_in, rest_left, absorbed_0, absorbed_1, absorbed_2, absorbed_3}
use Rattle.murmur.proofs.absorb.Goals as goal

pub loop-group-preserved : goal.loop-group-preserved
unfolding low_first
loop-group-preserved c =
    let xs = c.args.bytes.now in
    let i = c.loop-group.group-index in
    let l : i < length xs / 4 = omega (arith, c.loop-group-test.true, c.as_chunks.ensures.front_len) in
    let is = ap (λ (t : List (List ℕ)). lib.ListN.get_or t i _) c.as_chunks.ensures.front ∙ group_at (length xs / 4) i xs _ l in
    c.loop-group.invariant ∙ group_in xs _ i (omega arith) is c.loop-group.h c.from_le_bytes.result c.from_le_bytes.ensures ∙ ap (λ (h : ℕ). absorbed h (drop ((i + 1) * 4) xs)) (sym c.fold-h.ensures)

pub returns-in-len1 : goal.returns-in-len1
unfolding low_first
returns-in-len1 c =
    let rest = c.as_chunks.result.1.now in
    let h = c.loop-group.h in
    ap (bit_xor h) (c.mix.ensures ∙ ap mixed c.from_le_bytes-in-len1.ensures)
    ∙ sym (absorbed_1 h rest (omega arith))
    ∙ rest_left c.args.bytes.now rest c.loop-group.group-index h _ c.loop-group.invariant (omega (arith, c.loop-group-test.false, c.as_chunks.ensures.front_len)) c.as_chunks.ensures.back

pub returns-in-len2 : goal.returns-in-len2
unfolding low_first
returns-in-len2 c =
    let rest = c.as_chunks.result.1.now in
    let h = c.loop-group.h in
    ap (bit_xor h) (c.mix-in-len2.ensures ∙ ap mixed c.from_le_bytes-in-len2.ensures)
    ∙ sym (absorbed_2 h rest (omega arith))
    ∙ rest_left c.args.bytes.now rest c.loop-group.group-index h _ c.loop-group.invariant (omega (arith, c.loop-group-test.false, c.as_chunks.ensures.front_len)) c.as_chunks.ensures.back

pub returns-in-len3 : goal.returns-in-len3
unfolding low_first
returns-in-len3 c =
    let rest = c.as_chunks.result.1.now in
    let h = c.loop-group.h in
    ap (bit_xor h) (c.mix-in-len3.ensures ∙ ap mixed c.from_le_bytes-in-len3.ensures)
    ∙ sym (absorbed_3 h rest (omega arith))
    ∙ rest_left c.args.bytes.now rest c.loop-group.group-index h _ c.loop-group.invariant (omega (arith, c.loop-group-test.false, c.as_chunks.ensures.front_len)) c.as_chunks.ensures.back

pub returns-in_default : goal.returns-in_default
returns-in_default c =
    let rest = c.as_chunks.result.1.now in
    let h = c.loop-group.h in
    sym (absorbed_0 h rest (omega (arith, c.as_chunks.ensures.back_len)))
    ∙ rest_left c.args.bytes.now rest c.loop-group.group-index h _ c.loop-group.invariant (omega (arith, c.loop-group-test.false, c.as_chunks.ensures.front_len)) c.as_chunks.ensures.back
