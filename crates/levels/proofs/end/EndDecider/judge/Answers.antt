use Rattle.levels.proofs.Reading.{end_loads}
use Rattle.levels.proofs.end.EndDecider.judge.Goals as goal

pub returns : goal.returns
returns g c =
    let me = c.args.reader.now in
    let body = c.in_ok-read_table.field-0.now in
    let read = c.in_ok-read_table.ensures in
    record {
      verdict = (g.F.Filter.kind.loaded c.args.at body, end_loads g.F.Filter.kind c.args.at c.tag_of.result me.at c.read_table.new.reader.at me.input.now body c.tag_of.ensures read.verdict.0 read.verdict.1);
      input = read.input;
    }
