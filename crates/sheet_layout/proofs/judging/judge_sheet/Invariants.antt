use Rattle.std.proofs.Common.{◌≡◌, ◌+◌, ◌≤◌, Ok}
use Rattle.fields.specs.Reading.{then}
use Rattle.sheets.specs.Reading.{reads, summary}
use Rattle.sheets.proofs.Turns.{finish, fields_left}
use Rattle.sheet_layout.proofs.judging.judge_sheet.Given as goal

abbrev pub invariant-fields : goal.invariant-fields
invariant-fields l =
    (l.reader.reader.input.now ≡ l.input)
    × (finish l.reader.stage l.reader.last.now l.input l.reader.reader.at l.sheet ≡ then (reads l.input) (λ s. Ok (summary s)))
    × (l.sheet.words + fields_left l.reader.stage ≤ 258)

abbrev pub decreases-fields : goal.decreases-fields
decreases-fields l = fields_left l.reader.stage
