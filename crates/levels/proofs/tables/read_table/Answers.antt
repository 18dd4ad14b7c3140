use Rattle.std.proofs.Common.{Err, sym, ap, ◌∙◌}
use Rattle.std.proofs.lemmas.Result.{err_from_is_err_and}
use Rattle.levels.proofs.Reading.{no_header, no_length, no_body, read_ok, read_err, judged_ok, judged_err}
use Rattle.levels.proofs.tables.read_table.Goals as goal

pub returns-in_err-header : goal.returns-in_err-header
returns-in_err-header g c =
    let p = err_from_is_err_and c.from_residual.result c.from_residual.ensures.1 in
    let me = c.args.reader.now in
    let head = c.in_err-header.ensures in
    record {
      verdict = rw p.1 (no_header g.J.Judge.table c.args.tag c.args.hashes me.at me.input.now p.0 (sym head.value ∙ ap Err (sym p.2)));
      input = head.input;
    }

pub returns-then-not-measures : goal.returns-then-not-measures
returns-then-not-measures g c =
    let me = c.args.reader.now in
    let head = c.in_ok-header.ensures in
    record {
      verdict = no_length g.J.Judge.table c.args.tag c.args.hashes me.at me.input.now c.in_ok-header.header (sym head.value) (sym c.measures.ensures ∙ c.if-not-measures.true) ∙ ap Err (sym c.at.ensures);
      input = head.input;
    }

pub returns-in_err-body : goal.returns-in_err-body
returns-in_err-body g c =
    let p = err_from_is_err_and c.from_residual-in_err-body.result c.from_residual-in_err-body.ensures.1 in
    let me = c.args.reader.now in
    let head = c.in_ok-header.ensures in
    let tail = c.in_err-body.ensures in
    record {
      verdict = rw p.1 (no_body g.J.Judge.table c.args.tag c.args.hashes me.at me.input.now c.in_ok-header.header c.header.new.self.at c.header.new.self.input.now (sym head.value) head.at head.input (sym c.measures.ensures ∙ c.if-not-measures.false) p.0 (tail.value ∙ ap Err (sym p.2)));
      input = tail.input ∙ head.input;
    }

pub returns-in_err-in_field : goal.returns-in_err-in_field
returns-in_err-in_field g c =
    let t = g.J.Judge.table in
    let p = err_from_is_err_and c.from_residual-in_err-in_field.result c.from_residual-in_err-in_field.ensures.1 in
    let me = c.args.reader.now in
    let h = c.in_ok-header.header in
    let b = c.in_ok-body.body.now in
    let head = c.in_ok-header.ensures in
    let tail = c.in_ok-body.ensures in
    let j = judged_err c.args.tag h.place (t.judged c.args.hashes b) c.judge.result c.in_field.result c.judge.ensures c.in_field.ensures p.0 (c.in_err-in_field.was ∙ ap Err (sym p.2)) in
    record {
      verdict = rw p.1 (read_err t c.args.tag c.args.hashes me.at me.input.now h c.header.new.self.at c.header.new.self.input.now (sym head.value) head.at head.input (sym c.measures.ensures ∙ c.if-not-measures.false) b j.0 tail.value j.1 ∙ ap Err (sym j.2));
      input = tail.input ∙ head.input;
    }

pub returns : goal.returns
returns g c =
    let t = g.J.Judge.table in
    let me = c.args.reader.now in
    let h = c.in_ok-header.header in
    let b = c.in_ok-body.body.now in
    let head = c.in_ok-header.ensures in
    let tail = c.in_ok-body.ensures in
    let j = judged_ok c.args.tag h.place (t.judged c.args.hashes b) c.judge.result c.in_field.result c.judge.ensures c.in_field.ensures tt c.in_ok-in_field.was in
    record {
      verdict = read_ok t c.args.tag c.args.hashes me.at me.input.now h c.header.new.self.at c.header.new.self.input.now (sym head.value) head.at head.input (sym c.measures.ensures ∙ c.if-not-measures.false) b c.body.new.self.at tail.value tail.at j;
      input = tail.input ∙ head.input;
    }
