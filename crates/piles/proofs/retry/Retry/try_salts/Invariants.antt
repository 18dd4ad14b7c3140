use Rattle.std.proofs.Common.{◌≡◌, ◌≤◌}
use Rattle.levels.specs.Rows.{listed}
use Rattle.piles.specs.Tries.{retried}
use Rattle.piles.proofs.retry.Retry.try_salts.Given as goal

abbrev pub invariant-loop-refusal : goal.invariant-loop-refusal
invariant-loop-refusal g l =
    let d = g.D.Decider.decider in
    let rs = listed g.I.Identifier.form l.initial.register.list.now in
    record {
      kept : l.register.list.now ≡ l.initial.register.list.now;
      few : l.more ≤ 7;
      tried : retried d l.at l.sizes rs 7 l.at.salt ≡ retried d l.at l.sizes rs l.more l.salt;
    }

abbrev pub decreases-loop-refusal : goal.decreases-loop-refusal
decreases-loop-refusal g l = l.more
