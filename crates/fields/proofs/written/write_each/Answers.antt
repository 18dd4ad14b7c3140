use Rattle.passes.proofs.Outputs.{next_none, next_some}
use Rattle.fields.proofs.written.write_each.Goals as goal

pub returns-in_err-at : goal.returns-in_err-at
returns-in_err-at g c =
    let now = c.loop-thing in
    let x = c.thing-item in
    absurd (next_none g.W.Written.bytes c.args.things.now now.thing-index x.result c.loop-thing-test.true c.args.out.now now.out c.write.new.out now.at now.invariant x.result x.is c.write.result c.write.ensures c.in_ok-room_left.ensures.0 c.in_err-at.was)

pub loop-thing-preserved : goal.loop-thing-preserved
loop-thing-preserved g c =
    let now = c.loop-thing in
    let x = c.thing-item in
    next_some g.W.Written.bytes c.args.things.now now.thing-index x.result c.loop-thing-test.true c.args.out.now now.out c.write.new.out now.at now.invariant x.result x.is c.write.result c.write.ensures c.in_ok-at.field-0 c.in_ok-at.was
