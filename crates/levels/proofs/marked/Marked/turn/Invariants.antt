use Rattle.std.proofs.Common.{◌≡◌, ℕ, ◌<◌, ◌≤◌, get_or}
use Rattle.levels.specs.declared.Entry.{Entry}
use Rattle.levels.specs.Deciders.{remark}
use Rattle.levels.proofs.marked.Marked.turn.Given as goal

abbrev pub invariant-loop-i : goal.invariant-loop-i
invariant-loop-i g l =
    let k = g.F.Filter.kind in
    let v = g.F.Filter.view l.filter in
    ((j : ℕ) (d : Entry g.row.I.Denot) → j < l.i → get_or l.marks j 0 ≡ remark k v (record { form = g.I.Identifier.form (get_or l.entry-items j d).id; mark = get_or l.initial.marks j 0 }))
    × ((j : ℕ) → l.i ≤ j → get_or l.marks j 0 ≡ get_or l.initial.marks j 0)
