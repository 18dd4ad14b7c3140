use Rattle.std.proofs.Common.{◌≡◌, length}
use Rattle.exact.specs.Rows.{judge_rows, judge_from}
use Rattle.exact.proofs.rows.judge_rows.Given as goal

abbrev pub invariant-rows : goal.invariant-rows
invariant-rows l = judge_from l.room l.last l.left ≡ judge_rows l.body

abbrev pub decreases-rows : goal.decreases-rows
decreases-rows l = length l.left
