use Rattle.std.proofs.Common.{◌≡◌, ◌+◌, length, take}
use Rattle.passes.specs.Outputs.{joined}
use Rattle.fields.proofs.written.room_left.Given as goal

abbrev pub invariant-loop-thing : goal.invariant-loop-thing
invariant-loop-thing g l = l.left + length (joined g.W.Written.bytes (take l.thing-index l.things)) ≡ l.room
