use Rattle.std.proofs.Common.{◌≡◌, ℕ, false, leb, List, ◌++◌, length, drop, Some, None, Option, sym, ◌∙◌}
use Rattle.std.proofs.lemmas.Bool.{cond-false}
use Rattle.passes.specs.Outputs.{written_to}
use Rattle.sheets.specs.Sheets.{writes}
use Rattle.sheets.specs.Stages.{sheet_of}
use Rattle.sheets.proofs.Layouts.{layout_law}
use Rattle.sheet_writer.proofs.writer.write_sheet.Goals as goal

-- nothing is written if it doesn't fit
not_written : (bs out : List ℕ) → leb (length bs) (length out) ≡ false → ◌≡◌ {A = Option ℕ × List ℕ} (None, out) (written_to bs out)
not_written bs out e = let yes_way : Option ℕ × List ℕ = (Some (length bs), bs ++ drop (length bs) out) in let no_way : Option ℕ × List ℕ = (None, out) in sym (cond-false (leb (length bs) (length out)) yes_way no_way e)

pub returns-then-not-has_room : goal.returns-then-not-has_room
returns-then-not-has_room c =
    record { written = not_written (writes (sheet_of c.args.head c.args.words.now)) c.args.out.now (sym (c.has_room.ensures c.args.head) ∙ c.if-not-has_room.true); law = layout_law }

pub returns : goal.returns
returns c = record { written = c.fill_sheet.ensures; law = layout_law }
