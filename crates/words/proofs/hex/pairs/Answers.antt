use Rattle.std.proofs.Common.{◌≤◌, length, vec_items, sym, rules}
use Rattle.words.specs.Hex.{pairs_of}
use Rattle.words.proofs.Steps.{pairs_turn}
use Rattle.words.proofs.hex.pairs.Goals as goal

pub loop-left-preserved : goal.loop-left-preserved
loop-left-preserved c =
    let w = c.loop-left.left.now in
    let e : 2 ≤ length w = search rules in
    pairs_turn (vec_items c.loop-left.all) (vec_items c.push.new.self) w c.in-Some.byte (pairs_of c.args.digits.now) c.in_ok-push.ensures.items e (sym c.in-Some.ensures) c.loop-left.invariant
