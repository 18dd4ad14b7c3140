use mathlib.Core.Path.{◌≡◌}
use Prim.Native.Nat.{◌*◌}
use lib.ListN.{drop}
use Rattle.murmur.specs.Hash.{absorbed}
use Rattle.murmur.proofs.absorb.Given as goal

abbrev pub invariant-loop-group : goal.invariant-loop-group
invariant-loop-group l = absorbed l.initial.h l.fn.bytes ≡ absorbed l.h (drop (l.group-index * 4) l.fn.bytes)
