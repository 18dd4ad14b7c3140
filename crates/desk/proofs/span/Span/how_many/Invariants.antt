use Rattle.std.proofs.Common.{◌≤◌}
use Rattle.desk.proofs.span.Span.how_many.Given as goal

abbrev pub invariant-loop-i : goal.invariant-loop-i
invariant-loop-i g l = goal.F-IsAlwaysCallable g l.test × (l.well ≤ l.i)
