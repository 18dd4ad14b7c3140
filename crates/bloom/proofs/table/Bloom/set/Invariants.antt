use Rattle.std.proofs.Common.{◌≡◌, ◌*◌, take}
use Rattle.bloom.specs.Bits.{with_all}
use Rattle.bloom.proofs.table.Bloom.set.Given as goal

abbrev pub invariant-loop-i : goal.invariant-loop-i
invariant-loop-i l =
    let n = l.initial.self.table.settings.size in
    record {
      same : l.self.table.settings ≡ l.initial.self.table.settings;
      front : take n l.self.table.buffer ≡ with_all l.pair.h1 l.pair.h2 (8 * n) l.i (take n l.initial.self.table.buffer);
    }
