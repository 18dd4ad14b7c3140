use Rattle.std.proofs.Common.{◌≡◌, ◌+◌, Err, sym, ap, ◌∙◌, arith}
use Rattle.std.proofs.lemmas.Result.{err_from_is_err_and}
use Rattle.fields.proofs.Steps.{no_field, content_found, found_as}
use Rattle.publications.specs.Reading.{head_in, head_at}
use Rattle.publication_layout.proofs.heads.read_head.Goals as goal

pub returns-in_err-body : goal.returns-in_err-body
unfolding head_at
returns-in_err-body g c =
    let p = err_from_is_err_and c.from_residual.result c.from_residual.ensures.1 in
    let me = c.args.reader.now in
    let field = c.in_err-body.ensures in
    record { verdict = rw p.1 (no_field (head_in (g.M.KnownMakes.makes c.args.makes.now)) 0x01 9 9 me.at me.input.now p.0 (field.verdict ∙ ap Err (sym p.2))); input = field.input }

pub returns : goal.returns
unfolding head_at
returns g c =
    let makes = g.M.KnownMakes.makes c.args.makes.now in
    let me = c.args.reader.now in
    let body = c.in_ok-body.body.now in
    let field = c.in_ok-body.ensures in
    record {
      verdict = content_found (head_in makes) 0x01 9 9 me.at me.input.now (λ h. h) (λ _. c.field.new.self.at ≡ me.at + 12) body c.head_in.result c.in_field.result c.place-place.result field.verdict.0 (found_as (head_in makes) 0x01 9 9 me.at me.input.now body c.head_in.result c.head_in.ensures) c.place-place.ensures (λ _ _. let end = field.verdict in omega arith) c.in_field.ensures;
      input = field.input;
    }
