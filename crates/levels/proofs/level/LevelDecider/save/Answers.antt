use Rattle.std.proofs.Common.{ℕ, ◌+◌, ◌-◌, ◌++◌, length, take, drop, ap, ◌∙◌}
use borrow.Rule.Slice.PartMut.{put_mid}
use Rattle.passes.specs.Outputs.{written_to}
use Rattle.fields.specs.Fields.{field}
use Rattle.levels.specs.Deciders.{tag_of, next}
use Rattle.passes.proofs.Outputs.{wrote, wrote_to as writes, chain}
use Rattle.levels.proofs.level.LevelDecider.save.Goals as goal

pub returns : goal.returns
returns g c =
    let me = c.args.self.now in
    let out = c.args.out.now in
    let out1 = c.write_table.new.out in
    let n = c.in_ok-n.n in
    let m = c.in_ok-m.m in
    let level = c.args.level in
    let d = g.D.Decider.decider in
    let low = g.D.Decider.state me.below in
    let body = g.F.Filter.kind.saved (g.F.Filter.view me.filter) in
    let mine = field (tag_of level) body in
    let more = d.saved (next level) low in
    let first = wrote mine out out1 n (c.in_ok-n.ensures ∙ ap (λ (t : ℕ). written_to (field t body) out) c.tag_of.ensures) in
    let rest = take (length out1 - n) (drop n out1) in
    let second = wrote more rest c.save.new.out m (c.in_ok-m.ensures ∙ ap (λ (l : ℕ). written_to (d.saved l low) rest) c.saturating_add.ensures) in
    writes (mine ++ more) out (put_mid n (length out1 - n) out1 c.save.new.out) (n + m) (chain mine more out out1 c.save.new.out n m first second)
