use Rattle.std.proofs.Common.{◌≡◌, drop}
use Rattle.levels.specs.Rows.{rows}
use Rattle.levels.specs.Deciders.{fill}
use Rattle.levels.proofs.marked.Marked.fill.Given as goal

abbrev pub invariant-loop-i : goal.invariant-loop-i
invariant-loop-i g l =
    let k = g.F.Filter.kind in
    let rs = rows g.I.Identifier.form l.self.list.now l.self.marks.now in
    fill k (g.F.Filter.view l.initial.filter) 0 rs ≡ fill k (g.F.Filter.view l.filter) l.i (drop l.i rs)
