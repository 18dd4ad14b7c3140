use Rattle.std.proofs.Common.{◌/◌, ◌%◌, ℕ, List, [], ◌∷◌, ◌++◌, drop, refl, sym, ap, ◌∙◌}
use Rattle.publications.proofs.RowLaws.{rows_length}
use Rattle.publications.proofs.Writing.{coverage_wrote}
use Rattle.publication_writer.proofs.writer.write_coverage.Goals as goal

pub returns : goal.returns
returns c =
    let rs = c.args.rows.now in
    let out = c.args.out.now in
    let first = c.copy_from_slice.new.self in
    let three : ℕ → List ℕ = λ n. 0x02 ∷ (n / 256 % 256) ∷ (n % 256) ∷ [] in
    let head = c.copy_from_slice.ensures.after ∙ c.header.ensures ∙ ap three (sym (rows_length rs)) in
    coverage_wrote rs out (first ++ drop 3 out) first c.requires refl head c.write_each.new.out c.in_ok-write_each.field-0 c.in_ok-write_each.ensures
