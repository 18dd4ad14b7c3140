use Rattle.std.proofs.Common.{◌≡◌, ◌-◌, ◌/◌, length}
use Rattle.publications.specs.Reading.{rows_in, rows_from, reason_of}
use Rattle.publication_layout.proofs.coverage.judge_rows.Given as goal

abbrev pub invariant-loop-i : goal.invariant-loop-i
invariant-loop-i l = reason_of (rows_in l.bytes) ≡ reason_of (rows_from (length l.bytes / 7 - l.i) l.i l.bytes)
