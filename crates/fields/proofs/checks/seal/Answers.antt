use Rattle.std.proofs.Common.{arith}
use Rattle.fields.proofs.Seals.{seals}
use Rattle.fields.proofs.checks.seal.Goals as goal

pub returns : goal.returns
returns c = seals c.args.end c.check_of.result c.args.out.now c.copy_from_slice.new.self (omega arith) c.check_of.ensures (simp c.to_be_bytes-check.ensures at c.copy_from_slice.ensures.after)
