use Rattle.std.proofs.Common.{Err, sym, ap, ◌∙◌, arith}
use Rattle.std.proofs.lemmas.Result.{err_from_is_err_and}
use Rattle.fields.proofs.Steps.{no_header, no_length, field_read}
use Rattle.fields.proofs.reader.Reader.field.Goals as goal

pub returns-in_err-header : goal.returns-in_err-header
returns-in_err-header c =
    let p = err_from_is_err_and c.from_residual.result c.from_residual.ensures.1 in
    let me = c.args.self.now in
    let head = c.in_err-header.ensures in
    record {
      verdict = rw p.1 (no_header c.args.due c.args.low c.args.high me.at me.input.now p.0 (sym head.value ∙ ap Err (sym p.2)));
      input = head.input;
    }

pub returns-then-header-low : goal.returns-then-header-low
returns-then-header-low c =
    let me = c.args.self.now in
    let head = c.in_ok-header.ensures in
    record {
      verdict = no_length c.args.due c.args.low c.args.high me.at me.input.now c.in_ok-header.header (sym head.value) c.then-header-low.either ∙ ap Err (sym c.at.ensures);
      input = head.input;
    }

pub returns : goal.returns
returns c =
    let me = c.args.self.now in
    let head = c.in_ok-header.ensures in
    let tail = c.body.ensures in
    record {
      verdict = field_read c.args.due c.args.low c.args.high me.at me.input.now c.in_ok-header.header (sym head.value) (λ b. b.now) c.body.result c.header.new.self.at c.body.new.self.at c.header.new.self.input.now (omega arith) (omega arith) head.at head.input tail.value tail.at;
      input = tail.input ∙ head.input;
    }
