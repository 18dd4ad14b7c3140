use Rattle.std.proofs.Common.{◌≡◌}
use Rattle.desk.specs.Registers.{turned}
use Rattle.desk.proofs.register.turn_all.Given as goal

abbrev pub invariant-turns : goal.invariant-turns
invariant-turns l = l.list ≡ turned l.index l.step l.i l.initial.list
