use Rattle.passes.proofs.Orders.{strict_order, ranked}
use Rattle.passes.proofs.order.compare.Goals as goal

pub returns : goal.returns
returns c = record { ranked = rw c.cmp.ensures (ranked c.args.x.now c.args.y.now); order = strict_order }
