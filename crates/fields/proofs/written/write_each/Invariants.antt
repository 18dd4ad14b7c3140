use Rattle.std.proofs.Common.{take}
use Rattle.passes.specs.Outputs.{joined}
use Rattle.passes.proofs.Outputs.{Wrote}
use Rattle.fields.proofs.written.write_each.Given as goal

abbrev pub invariant-loop-thing : goal.invariant-loop-thing
invariant-loop-thing g l = Wrote (joined g.W.Written.bytes (take l.thing-index l.things)) l.initial.out l.out l.at
