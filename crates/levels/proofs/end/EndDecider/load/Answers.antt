use Rattle.std.proofs.Common.{Ok, sym, ap, ◌∙◌}
use Rattle.levels.specs.Deciders.{table_of}
use Rattle.levels.proofs.Reading.{end_loads, load_done, read_judged}
use Rattle.levels.proofs.end.EndDecider.load.Goals as goal

pub returns : goal.returns
returns g c =
    let k = g.F.Filter.kind in
    let me = c.args.reader.now in
    let body = c.in_ok-body.body.now in
    let at = c.args.at in
    let read = c.in_ok-body.ensures in
    let j = read_judged (table_of k) c.tag_of.result at.hashes me.at me.input.now body read.verdict.0 in
    let d = load_done k (g.F.Filter.view c.args.self.now.filter) (g.F.Filter.view c.load.new.self) at body c.load.result c.load.ensures j in
    let e = end_loads k at c.tag_of.result me.at c.read_table.new.reader.at me.input.now body c.tag_of.ensures read.verdict.0 read.verdict.1 in
    record {
      verdict = rw d.0 (e ∙ ap (λ (v : g.F.Filter.View). Ok (v, c.read_table.new.reader.at)) (sym d.1));
      input = read.input;
    }
