use Rattle.std.proofs.Common.{ℕ, ap, ◌∙◌}
use Rattle.passes.specs.declared.identifier.HashPair.{HashPair}
use Rattle.filters.specs.Memory.{view_of}
use Rattle.filters.specs.Tables.{after_try}
use Rattle.filters.specs.TableRules.{try_put}
use Rattle.cuckoo.specs.Cells.{partner, stored}
use Rattle.cuckoo.specs.Cuckoo.{buckets, bucket_of, cuckoo_scheme, stored_pair}
use Rattle.cuckoo.proofs.CuckooFilter.put.Goals as goal

pub returns : goal.returns
returns g c =
    let v = view_of c.args.self.now.table in
    let mate = partner (buckets v.settings) in
    let h = c.pair_of.result in
    c.store.ensures
    ∙ ap (λ (i : ℕ). after_try (stored mate v.table i c.place-place.result.fingerprint) v) c.place-place.ensures.is.0
    ∙ ap (λ (f : ℕ). after_try (stored mate v.table (bucket_of v.settings h) f) v) c.place-place.ensures.is.1
    ∙ ap (λ (h : HashPair). after_try (stored_pair v h) v) c.pair_of.ensures
    ∙ try_put cuckoo_scheme v (g.I.Identifier.form c.args.id.now)
