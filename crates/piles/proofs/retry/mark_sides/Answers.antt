use Rattle.std.proofs.Common.{arith}
use Rattle.piles.proofs.Listed.{rows_listed}
use Rattle.piles.proofs.retry.mark_sides.Goals as goal

pub returns-clause-marked : goal.returns-clause-marked
returns-clause-marked g c =
    let same = c.args.register.now.same_length in
    rows_listed g.I.Identifier.form c.args.register.now.list.now c.loop-i.marks (omega (arith, c.loop-i.auto.marks))
    (λ j d l. c.loop-i.invariant j d (omega (arith, l, c.loop-i-test.false)))
