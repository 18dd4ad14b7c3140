use Rattle.std.proofs.Common.{sym, ◌∙◌}
use Rattle.levels.specs.Deciders.{table_of}
use Rattle.fields.proofs.Steps.{never}
use Rattle.levels.proofs.Reading.{load_done, read_judged}
use Rattle.levels.proofs.level.LevelDecider.load.Goals as goal

pub returns-in_err-load : goal.returns-in_err-load
returns-in_err-load g c =
    let k = g.F.Filter.kind in
    let me = c.args.reader.now in
    let body = c.in_ok-body.body.now in
    let at = c.args.at in
    let read = c.in_ok-body.ensures in
    let j = read_judged (table_of k) c.tag_of.result at.hashes me.at me.input.now body read.verdict.0 in
    let done = load_done k (g.F.Filter.view c.args.self.now.filter) (g.F.Filter.view c.load.new.self) at body c.load.result c.load.ensures j in
    absurd (never _ tt (sym c.in_err-load.was ∙ done.0))
