use Rattle.std.proofs.Common.{ℕ, ◌+◌, ◌*◌, Bool, true, List, None, Some, Option, sym, ap, ◌∙◌, arith}
use Rattle.std.proofs.Math.Seq.{take-set-lt}
use Rattle.filters.specs.Fronts.{set_real}
use Rattle.filters.specs.Memory.{view_of}
use Rattle.filters.specs.Tables.{TableView, after_try}
use Rattle.cuckoo.proofs.Steps.{into_lowest, cells_fit, cell_in_use}
use Rattle.cuckoo.proofs.table.Cuckoo.fill.Goals as goal

pub returns-in_default : goal.returns-in_default
returns-in_default c =
    let me = c.args.self.now.table in
    let v = view_of me in
    let i = c.args.at.bucket in
    let l = cells_fit me.settings c.args.self.now.allowed me.buffer me.real.0 i c.requires in
    ap (λ (o : Option (List ℕ)). after_try o v) (sym (into_lowest v.table (4 * i) c.args.at.fingerprint None l (sym c.in_default.is ∙ c.empty_cell.ensures)))

pub invariant_of-self : goal.invariant_of-self
invariant_of-self c =
    let me = c.args.self.now.table in
    ((me.fits, (set_real me.buffer (4 * c.args.at.bucket + c.in-Some.k) c.args.at.fingerprint (omega arith) me.real, tt)), (c.args.self.now.allowed, tt))

pub returns : goal.returns
returns c =
    let me = c.args.self.now.table in
    let v = view_of me in
    let i = c.args.at.bucket in
    let f = c.args.at.fingerprint in
    let k = c.in-Some.k in
    let e = sym c.in-Some.is ∙ c.empty_cell.ensures in
    let l = cells_fit me.settings c.args.self.now.allowed me.buffer me.real.0 i c.requires in
    let low = cell_in_use me.settings c.args.self.now.allowed me.buffer me.real.0 i c.requires k (sym e) in
    let answer : List ℕ → Bool × TableView = λ t. (true, record { settings = me.settings; table = t }) in
    ap answer (take-set-lt me.settings.size me.buffer (4 * i + k) f low) ∙ ap (λ (o : Option (List ℕ)). after_try o v) (sym (into_lowest v.table (4 * i) f (Some k) l e))
