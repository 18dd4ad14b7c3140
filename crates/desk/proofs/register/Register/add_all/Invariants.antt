use Rattle.std.proofs.Common.{◌≡◌, ◌++◌, vec_items}
use Rattle.desk.specs.Registers.{entries}
use Rattle.desk.proofs.register.Register.add_all.Given as goal

abbrev pub invariant-passes : goal.invariant-passes
invariant-passes l = vec_items l.self.list ≡ vec_items l.initial.self.list ++ entries l.sides l.span l.i
