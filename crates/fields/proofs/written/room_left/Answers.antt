use Rattle.std.proofs.Common.{◌≤◌, List, length, take, ap, ◌∙◌, arith}
use Rattle.std.proofs.lemmas.List.{length-append, take_all}
use Rattle.passes.specs.Outputs.{joined}
use Rattle.passes.proofs.Outputs.{front_more, front_length}
use Rattle.fields.proofs.written.room_left.Goals as goal

pub returns-in_err-left : goal.returns-in_err-left
returns-in_err-left g c =
    let f = g.W.Written.bytes in
    let xs = c.args.things.now in
    let front = front_length f xs c.loop-thing.thing-index c.thing-item.result c.loop-thing-test.true in
    let size = c.size.ensures ∙ ap (λ (x : g.row.W.Denot). length (f x)) c.thing-item.is in
    rw c.from_residual.ensures (λ (fits : length (joined f xs) ≤ c.args.room). c.in_err-left.ensures (omega (arith, c.loop-thing.invariant)))

pub loop-thing-preserved : goal.loop-thing-preserved
loop-thing-preserved g c =
    let f = g.W.Written.bytes in
    let xs = c.args.things.now in
    let i = c.loop-thing.thing-index in
    let more = ap length (front_more f xs i c.thing-item.result c.loop-thing-test.true) ∙ length-append (joined f (take i xs)) _ in
    let size = c.size.ensures ∙ ap (λ (x : g.row.W.Denot). length (f x)) c.thing-item.is in
    omega (arith, c.in_ok-left.ensures, c.loop-thing.invariant)

pub returns : goal.returns
returns g c =
    let f = g.W.Written.bytes in
    let all = ap (λ (t : List g.row.W.Denot). length (joined f t)) (take_all c.loop-thing.thing-index c.args.things.now c.loop-thing-test.false) in
    let sum = c.loop-thing.invariant in
    (omega arith, omega arith)
