use Rattle.std.proofs.Common.{ℕ, Option, sym, ap, ◌∙◌}
use Rattle.sheets.proofs.Writing.{words_fit, sheet_wrote}
use Rattle.sheet_writer.proofs.writer.fill_sheet.Goals as goal

pub returns-in_err-end : goal.returns-in_err-end
returns-in_err-end c =
    let none = ap (λ (r : Option ℕ). (r, c.write_each.new.out)) (sym c.in_err-end.was) ∙ c.write_each.ensures in
    absurd (words_fit c.args.head c.args.words.now c.args.out.now c.write_head.new.out c.requires c.write_head.ensures c.write_each.new.out none)

pub returns : goal.returns
returns c =
    let some = ap (λ (r : Option ℕ). (r, c.write_each.new.out)) (sym c.in_ok-end.was) ∙ c.write_each.ensures in
    sheet_wrote c.args.head c.args.words.now c.args.out.now c.write_head.new.out c.requires c.write_head.ensures c.write_each.new.out c.in_ok-end.field-0 some c.seal.result c.seal.new.out c.seal.ensures
