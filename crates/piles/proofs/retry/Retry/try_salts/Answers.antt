use Rattle.std.proofs.Common.{sym, ap, ◌∙◌, arith}
use Rattle.levels.specs.Rows.{listed}
use Rattle.piles.specs.Tries.{at_salt}
use Rattle.piles.proofs.Salts.{retried_ok, retried_end, retried_on}
use Rattle.piles.proofs.retry.Retry.try_salts.Goals as goal

pub loop-refusal-preserved : goal.loop-refusal-preserved
loop-refusal-preserved g c =
    let d = g.D.Decider.decider in
    let f = g.I.Identifier.form in
    let at = c.args.at in
    let sizes = c.args.sizes.now in
    let salt = c.loop-refusal.salt in
    let same = c.loop-refusal.invariant.kept in
    let failed = ap (λ es. d.build (at_salt at salt) sizes (listed f es)) (sym same) ∙ c.in-Err.ensures.built in
    record {
      kept = c.try_salt.ensures.kept ∙ same;
      few = omega (arith, c.loop-refusal.invariant.few);
      tried = c.loop-refusal.invariant.tried ∙ retried_on d at sizes (listed f c.args.register.now.list.now) c.loop-refusal.more salt c.in-Err.refusal c.if-more-eq0.false failed;
    }

pub returns-in-Ok-clause-built : goal.returns-in-Ok-clause-built
returns-in-Ok-clause-built g c =
    let d = g.D.Decider.decider in
    let f = g.I.Identifier.form in
    let at = c.args.at in
    let sizes = c.args.sizes.now in
    let salt = c.loop-refusal.salt in
    let made = ap (λ es. d.build (at_salt at salt) sizes (listed f es)) (sym c.loop-refusal.invariant.kept) ∙ c.in-Ok.ensures.built in
    c.loop-refusal.invariant.tried ∙ retried_ok d at sizes (listed f c.args.register.now.list.now) c.loop-refusal.more salt (g.D.Decider.state c.try_salt.new.self.below) made

pub returns-then-more-eq0-clause-built : goal.returns-then-more-eq0-clause-built
returns-then-more-eq0-clause-built g c =
    let d = g.D.Decider.decider in
    let f = g.I.Identifier.form in
    let at = c.args.at in
    let sizes = c.args.sizes.now in
    let salt = c.loop-refusal.salt in
    let failed = ap (λ es. d.build (at_salt at salt) sizes (listed f es)) (sym c.loop-refusal.invariant.kept) ∙ c.in-Err.ensures.built in
    c.loop-refusal.invariant.tried ∙ retried_end d at sizes (listed f c.args.register.now.list.now) c.loop-refusal.more salt c.in-Err.refusal c.if-more-eq0.true failed
