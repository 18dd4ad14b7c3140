use Rattle.std.proofs.Common.{arith}
use Rattle.levels.proofs.Fills.{rows_turned}
use Rattle.levels.proofs.marked.Marked.turn.Goals as goal

pub returns-clause-turned : goal.returns-clause-turned
returns-clause-turned g c =
    rows_turned g.I.Identifier.form g.F.Filter.kind (g.F.Filter.view c.args.filter.now) c.args.self.now.list.now c.args.self.now.marks.now c.loop-i.marks c.args.self.now.same_length c.loop-i.auto.marks
    (λ j d l. c.loop-i.invariant.0 j d (omega (arith, l, c.loop-i-test.false)))
