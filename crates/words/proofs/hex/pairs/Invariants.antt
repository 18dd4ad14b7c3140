use Rattle.std.proofs.Common.{◌≡◌, length, vec_items}
use Rattle.words.specs.Hex.{pairs_of}
use Rattle.words.proofs.Steps.{behind}
use Rattle.words.proofs.hex.pairs.Given as goal

-- the bytes found, and then those of what is left
abbrev pub invariant-loop-left : goal.invariant-loop-left
invariant-loop-left l = behind (vec_items l.all) (pairs_of l.left) ≡ pairs_of l.initial.left

abbrev pub decreases-loop-left : goal.decreases-loop-left
decreases-loop-left l = length l.left
