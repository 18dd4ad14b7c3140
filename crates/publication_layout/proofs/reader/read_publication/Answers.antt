use Rattle.std.proofs.Common.{ℕ, ◌+◌, ◌<◌, length, get_or, Ok, Err, sym, refl, ap, ◌∙◌, rules}
use Rattle.std.proofs.lemmas.Result.{err_from_is_err_and}
use Rattle.passes.specs.ByteLaws.{bytes_from}
use Rattle.fields.specs.Reading.{check_at}
use Rattle.levels.specs.Deciders.{table_in, tables_at, table_fields}
use Rattle.publications.specs.Reading.{known_tables, head_at, coverage_judge, rows_in, unsaid}
use Rattle.publications.proofs.Steps.{stop_head, stop_coverage, stop_tables, stop_check, all_read}
use Rattle.publications.proofs.Layouts.{layout_law, reading}
use Rattle.publications.proofs.Answering.{moved, refused_decides, accepted_written, tables_part, after_head, after_coverage, after_tables}
use Rattle.publication_layout.proofs.reader.read_publication.Goals as goal

pub returns-in_err-head : goal.returns-in_err-head
returns-in_err-head g c =
    let makes = g.M.KnownMakes.makes c.args.makes.now in
    let p = err_from_is_err_and c.from_residual.result c.from_residual.ensures.1 in
    let input = c.args.input.now in
    let new = c.new-reader.ensures in
    let r0 = c.new-reader.result in
    let got = c.in_err-head.ensures.verdict in
    let e = stop_head makes input p.0 (moved (head_at makes) r0.input.now input r0.at 0 (Err p.0) new.0 new.1 (got ∙ ap Err (sym p.2))) in
    record { value = rw p.1 e; meaning = refused_decides makes input c.from_residual.result p.0 p.1 e; law = layout_law makes }

pub returns-in_err-coverage : goal.returns-in_err-coverage
returns-in_err-coverage g c =
    let makes = g.M.KnownMakes.makes c.args.makes.now in
    let p = err_from_is_err_and c.from_residual-in_err-coverage.result c.from_residual-in_err-coverage.ensures.1 in
    let input = c.args.input.now in
    let new = c.new-reader.ensures in
    let r0 = c.new-reader.result in
    let r1 = c.read_head.new.reader in
    let h = c.in_ok-head.head in
    let head = c.in_ok-head.ensures in
    let s1 = after_head makes input h r0.input.now r1.input.now r0.at r1.at new.0 new.1 head.verdict.0 head.input head.verdict.1 in
    let got = c.in_err-coverage.ensures.verdict in
    let e = stop_coverage makes input h s1.read_head p.0 (moved (table_in coverage_judge 0x02 h.hashes) r1.input.now input r1.at 12 (Err p.0) s1.same s1.place (got ∙ ap Err (sym p.2))) in
    record { value = rw p.1 e; meaning = refused_decides makes input c.from_residual-in_err-coverage.result p.0 p.1 e; law = layout_law makes }

pub returns-in_err-judge : goal.returns-in_err-judge
returns-in_err-judge g c =
    let makes = g.M.KnownMakes.makes c.args.makes.now in
    let p = err_from_is_err_and c.from_residual-in_err-judge.result c.from_residual-in_err-judge.ensures.1 in
    let input = c.args.input.now in
    let new = c.new-reader.ensures in
    let r0 = c.new-reader.result in
    let r1 = c.read_head.new.reader in
    let r2 = c.read_table.new.reader in
    let h = c.in_ok-head.head in
    let head = c.in_ok-head.ensures in
    let rows = c.in_ok-coverage.coverage.now in
    let cover = c.in_ok-coverage.ensures in
    let s1 = after_head makes input h r0.input.now r1.input.now r0.at r1.at new.0 new.1 head.verdict.0 head.input head.verdict.1 in
    let s2 = after_coverage makes input h rows r1.input.now r2.input.now r1.at r2.at s1 cover.verdict.0 cover.input cover.verdict.1 in
    let got = c.in_err-judge.ensures.verdict in
    let e = stop_tables makes input h s2.read_head rows s2.read_rows p.0 (moved (tables_at (known_tables (makes h.make)) 1 h.hashes) r2.input.now input r2.at (15 + length rows) (Err p.0) s2.same s2.place (got ∙ ap Err (sym p.2))) in
    record { value = rw p.1 e; meaning = refused_decides makes input c.from_residual-in_err-judge.result p.0 p.1 e; law = layout_law makes }

pub returns-in_err-check : goal.returns-in_err-check
returns-in_err-check g c =
    let makes = g.M.KnownMakes.makes c.args.makes.now in
    let p = err_from_is_err_and c.from_residual-in_err-check.result c.from_residual-in_err-check.ensures.1 in
    let input = c.args.input.now in
    let new = c.new-reader.ensures in
    let r0 = c.new-reader.result in
    let r1 = c.read_head.new.reader in
    let r2 = c.read_table.new.reader in
    let r3 = c.judge.new.reader in
    let h = c.in_ok-head.head in
    let head = c.in_ok-head.ensures in
    let rows = c.in_ok-coverage.coverage.now in
    let cover = c.in_ok-coverage.ensures in
    let tables = c.in_ok-judge.ensures in
    let bs = tables.verdict.0 in
    let s1 = after_head makes input h r0.input.now r1.input.now r0.at r1.at new.0 new.1 head.verdict.0 head.input head.verdict.1 in
    let s2 = after_coverage makes input h rows r1.input.now r2.input.now r1.at r2.at s1 cover.verdict.0 cover.input cover.verdict.1 in
    let s3 = after_tables makes input h rows bs r2.input.now r3.input.now r2.at r3.at s2 tables.verdict.1 tables.input tables.verdict.2 in
    let got = c.in_err-check.ensures.verdict in
    let e = stop_check makes input h s3.read_head rows s3.read_rows bs s3.read_tables p.0 (moved check_at r3.input.now input r3.at (15 + length rows + length (table_fields 1 bs)) (Err p.0) s3.same s3.place (got ∙ ap Err (sym p.2))) in
    record { value = rw p.1 e; meaning = refused_decides makes input c.from_residual-in_err-check.result p.0 p.1 e; law = layout_law makes }

pub returns : goal.returns
returns g c =
    let makes = g.M.KnownMakes.makes c.args.makes.now in
    let input = c.args.input.now in
    let new = c.new-reader.ensures in
    let r0 = c.new-reader.result in
    let r1 = c.read_head.new.reader in
    let r2 = c.read_table.new.reader in
    let r3 = c.judge.new.reader in
    let h = c.in_ok-head.head in
    let head = c.in_ok-head.ensures in
    let rows = c.in_ok-coverage.coverage.now in
    let cover = c.in_ok-coverage.ensures in
    let tables = c.in_ok-judge.ensures in
    let bs = tables.verdict.0 in
    let s1 = after_head makes input h r0.input.now r1.input.now r0.at r1.at new.0 new.1 head.verdict.0 head.input head.verdict.1 in
    let s2 = after_coverage makes input h rows r1.input.now r2.input.now r1.at r2.at s1 cover.verdict.0 cover.input cover.verdict.1 in
    let s3 = after_tables makes input h rows bs r2.input.now r3.input.now r2.at r3.at s2 tables.verdict.1 tables.input tables.verdict.2 in
    let low : (i : ℕ) → get_or input i 0 < 256 = λ i. search rules in
    let real = bytes_from input low in
    let end = c.in_ok-check.ensures in
    let read_e = moved check_at r3.input.now input r3.at (15 + length rows + length (table_fields 1 bs)) (Ok tt) s3.same s3.place end.verdict.0 in
    let e = all_read makes input h s3.read_head rows s3.read_rows bs s3.read_tables tt read_e in
    let parts = reading makes input real h s3.read_head rows s3.read_rows bs s3.read_tables tt read_e in
    record {
      value = record {
        content = record { head = h; coverage = unsaid (rows_in rows); tables = bs };
        read = e;
        head = refl;
        coverage = parts.found;
        tables = tables_part (known_tables (makes h.make)) h.hashes input (15 + length rows) c.place-start.result c.place-end.result bs parts.tables parts.inside (c.place-start.ensures ∙ s2.place) (c.place-end.ensures ∙ s3.place);
      };
      meaning = (λ _. accepted_written makes input (record { head = h; coverage = unsaid (rows_in rows); tables = bs }) real e, λ _. refl);
      law = layout_law makes;
    }
