use Rattle.std.proofs.Common.{refl}
use Rattle.bloom.proofs.Sets.{sets_these}
use Rattle.bloom.proofs.put_sets_these.Goals as goal

pub returns : goal.returns
returns c = (sets_these, refl)
