use Rattle.std.proofs.Common.{refl}
use Rattle.murmur.specs.Hash.{low_first, absorbed, downed, finished}
use Rattle.bloom.specs.Bits.{bit, with_bit}
use Rattle.levels.specs.Deciders.{fill}
use Rattle.examples.proofs.worked_examples.Goals as goal

pub returns : goal.returns
unfolding low_first absorbed downed finished bit with_bit fill
returns c = (
  record {
    empty_at_0 = refl;
    empty_at_1 = refl;
    empty_at_most = refl;
    test_at_0 = refl;
    positions = refl;
    highest_fingerprint = refl;
    lowest_fingerprint = refl;
    first_bucket = refl;
    second_bucket = refl;
    tag_written = refl;
    blocked_alone = refl;
    good_alone = refl;
  },
  refl,
)
