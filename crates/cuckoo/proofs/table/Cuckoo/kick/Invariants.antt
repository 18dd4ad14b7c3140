use Rattle.std.proofs.Common.{◌≡◌, ◌-◌, ◌<◌, false}
use Rattle.filters.specs.Memory.{view_of}
use Rattle.cuckoo.specs.Cells.{partner, kicked}
use Rattle.cuckoo.specs.Cuckoo.{buckets}
use Rattle.cuckoo.proofs.Steps.{Full}
use Rattle.cuckoo.proofs.table.Cuckoo.kick.Given as goal

abbrev pub invariant-search : goal.invariant-search
invariant-search l =
    record {
      same : l.self.table.settings ≡ l.initial.self.table.settings;
      low : l.at.bucket < buckets l.self.table.settings;
      not_yet : l.found ≡ false;
      kicks : kicked (partner (buckets l.initial.self.table.settings)) 64 0 l.initial.at.bucket l.initial.at.fingerprint (view_of l.initial.self.table).table ≡ kicked (partner (buckets l.self.table.settings)) (64 - l.n) l.n l.at.bucket l.at.fingerprint (view_of l.self.table).table;
    }

abbrev pub invariant-loop-cell : goal.invariant-loop-cell
invariant-loop-cell l =
    record {
      cells : l.cell-items ≡ l.initial.cell-items;
      not_yet : l.found ≡ false;
      full : Full l.cell-items l.cell-index;
    }
