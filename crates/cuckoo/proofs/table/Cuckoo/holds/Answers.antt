use Rattle.std.proofs.Common.{◌*◌, eqb, ap, ◌∙◌}
use Rattle.std.specs.List.{list_any}
use Rattle.filters.specs.Memory.{view_of}
use Rattle.cuckoo.proofs.Steps.{cells_fit, any_held}
use Rattle.cuckoo.proofs.table.Cuckoo.holds.Goals as goal

pub returns : goal.returns
returns c =
    let me = c.args.self.now.table in
    let i = c.args.at.bucket in
    let f = c.args.at.fingerprint in
    let l = cells_fit me.settings c.args.self.now.allowed me.buffer me.real.0 i c.requires in
    c.contains.ensures.value ∙ ap (list_any (λ cell. eqb cell f)) c.bucket.ensures ∙ any_held (view_of me).table (4 * i) f l
