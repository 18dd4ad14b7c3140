use Rattle.std.proofs.Common.{ltb, length, Err, sym, ap, ◌∙◌, arith}
use Rattle.std.proofs.lemmas.Result.{MatchResult-weaker}
use Rattle.std.proofs.lemmas.Bool.{lt-ltb, le-ltb, cond-true, cond-false}
use Rattle.levels.specs.Rows.{listed}
use Rattle.piles.proofs.Listed.{length_listed}
use Rattle.piles.proofs.Salts.{outcome}
use Rattle.piles.proofs.retry.Retry.build_register.Goals as goal

pub returns-then-marks-n : goal.returns-then-marks-n
returns-then-marks-n g c =
    let es = c.args.list.now in
    let work = length c.args.work.now in
    let n = length_listed g.I.Identifier.form es in
    let rs = listed g.I.Identifier.form es in
    record {
      built = cond-true (ltb work (length rs)) _ _ (lt-ltb work (length rs) (omega (arith, c.if-marks-n.true))) ∙ ap Err (sym c.into.ensures);
      law = outcome g.D.Decider.decider;
      zero = c.drop-marks.ensures;
    }

pub returns-clause-built : goal.returns-clause-built
returns-clause-built g c =
    let n = length_listed g.I.Identifier.form c.args.list.now in
    let rs = listed g.I.Identifier.form c.args.list.now in
    let work = length c.args.work.now in
    let enough = cond-false (ltb work (length rs)) _ _ (le-ltb work (length rs) (omega (arith, c.if-marks-n.false))) in
    MatchResult-weaker c.try_salts.result c.try_salts.ensures.built (λ _ p. enough ∙ p) (λ e p. enough ∙ p)

pub returns-clause-law : goal.returns-clause-law
returns-clause-law g c = outcome g.D.Decider.decider
