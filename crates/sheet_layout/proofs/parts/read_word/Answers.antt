use Rattle.std.proofs.Common.{◌≡◌, Err, sym, ap, ◌∙◌}
use Rattle.std.proofs.lemmas.Result.{err_from_is_err_and}
use Rattle.fields.proofs.Steps.{no_field, content_found}
use Rattle.sheets.specs.Reading.{word_in, word_at, behind}
use Rattle.sheets.specs.Stages.{word_of}
use Rattle.sheets.proofs.Steps.{word_end}
use Rattle.sheet_layout.proofs.parts.read_word.Goals as goal

pub returns-in_err-body : goal.returns-in_err-body
unfolding word_at
returns-in_err-body c =
    let p = err_from_is_err_and c.from_residual.result c.from_residual.ensures.1 in
    let me = c.args.reader.now in
    let field = c.in_err-body.ensures in
    record { verdict = rw p.1 (no_field (word_in c.args.last.now) 0x22 5 24 me.at me.input.now p.0 (field.verdict ∙ ap Err (sym p.2))); input = field.input }

pub returns : goal.returns
unfolding word_at
returns c =
    let me = c.args.reader.now in
    let last = c.args.last.now in
    let body = c.in_ok-body.body.now in
    let field = c.in_ok-body.ensures in
    let end = c.field.new.self.at in
    record {
      verdict = content_found (word_in last) 0x22 5 24 me.at me.input.now word_of (λ w. end ≡ behind me.at (word_of w)) body c.word_in.result c.in_field.result c.place-place.result field.verdict.0 c.word_in.ensures c.place-place.ensures (λ w found. word_end last body (word_of w) me.at end found field.verdict.2 field.verdict.1) c.in_field.ensures;
      input = field.input;
    }
