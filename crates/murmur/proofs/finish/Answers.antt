use mathlib.Core.Path.{refl}
use Rattle.murmur.specs.Hash.{finished, downed}
use Rattle.murmur.proofs.finish.Goals as goal

pub returns : goal.returns
unfolding finished downed
returns c = refl
