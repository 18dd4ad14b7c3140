use Rattle.std.proofs.Common.{◌≡◌, ℕ, ◌<◌, get_or}
use Rattle.levels.specs.declared.Entry.{Entry}
use Rattle.levels.specs.Rows.{mark_of}
use Rattle.piles.proofs.retry.mark_sides.Given as goal

abbrev pub invariant-loop-i : goal.invariant-loop-i
invariant-loop-i g l = (j : ℕ) (e : Entry g.row.I.Denot) → j < l.i → get_or l.marks j 0 ≡ mark_of (get_or l.entry-items j e).side
