use Rattle.std.proofs.Common.{◌≡◌, ℕ, ◌+◌, ◌-◌, ◌*◌, ◌%◌, ◌<◌, Bool, true, List, length, Some, set, take, sym, subst, ap, ◌∙◌, arith}
use Rattle.std.proofs.lemmas.List.{set-get_or}
use Rattle.passes.specs.Bytes.{bytes}
use Rattle.filters.specs.Fronts.{set_real}
use Rattle.filters.specs.Memory.{view_of}
use Rattle.cuckoo.specs.Cells.{partner, kicked}
use Rattle.cuckoo.specs.Cuckoo.{buckets}
use Rattle.cuckoo.specs.Tried.{tried}
use Rattle.cuckoo.proofs.Steps.{Full, full_next, lent_back, lent_set, into_first, into_none, bucket_fits, cell_of, kick_in_front, kick_found, kick_on, kick_end}
use Rattle.cuckoo.proofs.table.Cuckoo.kick.Goals as goal

pub invariant_of-self : goal.invariant_of-self
invariant_of-self c =
    let me = c.search.self.table in
    ((me.fits, (set_real me.buffer (4 * c.search.at.bucket + c.search.n % 4) c.search.at.fingerprint (omega arith) me.real, tt)), (c.search.self.allowed, tt))

pub loop-cell-preserved : goal.loop-cell-preserved
loop-cell-preserved c =
    let cells = c.loop-cell.cell-items in
    let k = c.loop-cell.cell-index in
    let same = set-get_or cells k 0 in
    record {
      cells = same ∙ c.loop-cell.invariant.cells;
      not_yet = c.loop-cell.invariant.not_yet;
      full = subst (λ (l : List ℕ). Full l (k + 1)) (sym same) (full_next cells k c.loop-cell.invariant.full c.if-cell-eq0.false);
    }

pub invariant_of-self-in-loop-cell : goal.invariant_of-self-in-loop-cell
invariant_of-self-in-loop-cell c =
    let me = c.search.self.table in
    let t = set me.buffer (4 * c.search.at.bucket + c.search.n % 4) c.search.at.fingerprint in
    let real = set_real me.buffer (4 * c.search.at.bucket + c.search.n % 4) c.search.at.fingerprint (omega arith) me.real in
    let P : List ℕ → Type 0 = λ l. (length l ≡ 2048) × (bytes l ≡ true) in
    let back = lent_back t (4 * c.partner-at.result.bucket) c.loop-cell.cell-items c.loop-cell.invariant.cells in
    ((me.fits, (subst P (sym back) real, tt)), (c.search.self.allowed, tt))

pub invariant_of-self-then-cell-eq0 : goal.invariant_of-self-then-cell-eq0
invariant_of-self-then-cell-eq0 c =
    let me = c.search.self.table in
    let p = c.partner-at.result in
    let k = c.loop-cell.cell-index in
    let t = set me.buffer (4 * c.search.at.bucket + c.search.n % 4) c.search.at.fingerprint in
    let real = set_real me.buffer (4 * c.search.at.bucket + c.search.n % 4) c.search.at.fingerprint (omega arith) me.real in
    let room = bucket_fits me.settings c.search.self.allowed t real.0 p.bucket c.partner-at.ensures.low in
    let P : List ℕ → Type 0 = λ l. (length l ≡ 2048) × (bytes l ≡ true) in
    let put = lent_set t (4 * p.bucket) c.loop-cell.cell-items c.loop-cell.invariant.cells k p.fingerprint room.1 (omega (arith, room.2, c.loop-cell-test.true)) in
    ((me.fits, (subst P (sym put) (set_real t (4 * p.bucket + k) p.fingerprint (omega arith) real), tt)), (c.search.self.allowed, tt))

pub search-preserved : goal.search-preserved
search-preserved c =
    let me = c.search.self.table in
    let s = me.settings in
    let n = c.search.n in
    let i = c.search.at.bucket in
    let f = c.search.at.fingerprint in
    let p = c.partner-at.result in
    let mate = partner (buckets s) in
    let cell = cell_of s c.search.self.allowed me.buffer me.real.0 i c.search.invariant.low (n % 4) (omega arith) in
    let kick = kick_in_front mate s.size n i f p.bucket p.fingerprint me.buffer c.search-test.true cell c.partner-at.ensures.is in
    let t = set me.buffer (4 * i + n % 4) f in
    let real = set_real me.buffer (4 * i + n % 4) f (omega arith) me.real in
    let room = bucket_fits s c.search.self.allowed t real.0 p.bucket c.partner-at.ensures.low in
    let lent = c.loop-cell.invariant.cells in
    let back = lent_back t (4 * p.bucket) c.loop-cell.cell-items lent in
    let walked : Full c.loop-cell.cell-items 4 = λ j l. c.loop-cell.invariant.full j (omega (arith, room.2, c.loop-cell-test.false)) in
    let none = into_none t (4 * p.bucket) c.loop-cell.cell-items lent s.size p.fingerprint room.0 walked in
    record {
      same = c.search.invariant.same;
      low = c.partner-at.ensures.low;
      not_yet = c.loop-cell.invariant.not_yet;
      kicks =
          c.search.invariant.kicks
          ∙ kick_on mate n i f p.bucket p.fingerprint (take s.size me.buffer) (take s.size t) kick none
          ∙ ap (λ (l : List ℕ). kicked mate (64 - (n + 1)) (n + 1) p.bucket p.fingerprint (take s.size l)) (sym back);
    }

pub returns-after-search-clause-put : goal.returns-after-search-clause-put
returns-after-search-clause-put c =
    let v = view_of c.search.self.table in
    c.search.invariant.kicks
    ∙ kick_end (partner (buckets v.settings)) c.search.n c.search.at.bucket c.search.at.fingerprint v.table c.search-test.false
    ∙ ap (λ (b : Bool). tried b v.table) (sym c.search.invariant.not_yet)

pub returns-then-cell-eq0-clause-put : goal.returns-then-cell-eq0-clause-put
returns-then-cell-eq0-clause-put c =
    let me = c.search.self.table in
    let s = me.settings in
    let n = c.search.n in
    let i = c.search.at.bucket in
    let f = c.search.at.fingerprint in
    let p = c.partner-at.result in
    let k = c.loop-cell.cell-index in
    let mate = partner (buckets s) in
    let cell = cell_of s c.search.self.allowed me.buffer me.real.0 i c.search.invariant.low (n % 4) (omega arith) in
    let kick = kick_in_front mate s.size n i f p.bucket p.fingerprint me.buffer c.search-test.true cell c.partner-at.ensures.is in
    let t = set me.buffer (4 * i + n % 4) f in
    let real = set_real me.buffer (4 * i + n % 4) f (omega arith) me.real in
    let room = bucket_fits s c.search.self.allowed t real.0 p.bucket c.partner-at.ensures.low in
    let lent = c.loop-cell.invariant.cells in
    let few : k < 4 = omega (arith, room.2, c.loop-cell-test.true) in
    let put = lent_set t (4 * p.bucket) c.loop-cell.cell-items lent k p.fingerprint room.1 few in
    let filled = into_first t (4 * p.bucket) c.loop-cell.cell-items lent s.size p.fingerprint room.0 k few c.loop-cell.invariant.full c.if-cell-eq0.true in
    c.search.invariant.kicks
    ∙ kick_found mate n i f p.bucket p.fingerprint (take s.size me.buffer) (take s.size t) kick _ filled
    ∙ ap (λ (l : List ℕ). Some (take s.size l)) (sym put)
