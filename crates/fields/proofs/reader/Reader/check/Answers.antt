use Rattle.std.proofs.Common.{◌≡◌, length, Err, sym, refl, ap, ◌∙◌, arith}
use Rattle.std.proofs.lemmas.Result.{err_from_is_err_and}
use Rattle.fields.proofs.Steps.{no_check, wrong_check, bytes_left, check_read}
use Rattle.fields.proofs.reader.Reader.check.Goals as goal

pub returns-in_err-body : goal.returns-in_err-body
returns-in_err-body c =
    let p = err_from_is_err_and c.from_residual.result c.from_residual.ensures.1 in
    let me = c.args.self.now in
    let field = c.in_err-body.ensures in
    record { verdict = rw p.1 (no_check me.at me.input.now p.0 (field.verdict ∙ ap Err (sym p.2))); input = field.input }

pub returns-then-check_in-check_of : goal.returns-then-check_in-check_of
returns-then-check_in-check_of c =
    let me = c.args.self.now in
    let field = c.in_ok-body.ensures in
    record {
      verdict = wrong_check me.at me.input.now c.in_ok-body.body.now c.field.new.self.input.now me.at c.check_in.result c.check_of.result field.verdict.0 field.input refl c.check_in.ensures c.check_of.ensures c.if-check_in-check_of.true ∙ ap Err (sym c.at.ensures);
      input = field.input;
    }

pub returns-then-end-self : goal.returns-then-end-self
returns-then-end-self c =
    let me = c.args.self.now in
    let field = c.in_ok-body.ensures in
    let end = field.verdict in
    let l : length c.in_ok-body.body.now ≡ 4 = omega arith in
    record {
      verdict = bytes_left me.at me.input.now c.in_ok-body.body.now c.field.new.self.input.now me.at c.check_in.result c.check_of.result field.verdict.0 field.input refl c.check_in.ensures c.check_of.ensures c.if-check_in-check_of.false c.field.new.self.at field.verdict.1 l c.if-end-self.true ∙ ap Err (sym c.at-then-end-self.ensures);
      input = field.input;
    }

pub returns : goal.returns
returns c =
    let me = c.args.self.now in
    let field = c.in_ok-body.ensures in
    let end = field.verdict in
    let l : length c.in_ok-body.body.now ≡ 4 = omega arith in
    let r = check_read me.at me.input.now c.in_ok-body.body.now c.field.new.self.input.now me.at c.check_in.result c.check_of.result field.verdict.0 field.input refl c.check_in.ensures c.check_of.ensures c.if-check_in-check_of.false c.field.new.self.at field.verdict.1 l c.if-end-self.false in
    record { verdict = (r.0, r.1); input = field.input }
