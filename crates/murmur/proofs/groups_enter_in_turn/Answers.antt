use mathlib.Core.Path.{refl}
use Rattle.murmur.proofs.Groups.{by_groups}
use Rattle.murmur.proofs.groups_enter_in_turn.Goals as goal

pub returns : goal.returns
returns c = (by_groups, refl)
