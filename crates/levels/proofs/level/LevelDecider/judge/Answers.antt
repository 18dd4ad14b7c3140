use Rattle.std.proofs.Common.{sym, ap, ◌∙◌}
use Rattle.std.proofs.lemmas.Result.{MatchResult-weaker}
use Rattle.filters.specs.declared.Hashing.{Hashing}
use Rattle.levels.proofs.Reading.{level_loads, level_refuses}
use Rattle.levels.proofs.level.LevelDecider.judge.Goals as goal

pub returns : goal.returns
returns g c =
    let k = g.F.Filter.kind in
    let d = g.D.Decider.decider in
    let me = c.args.reader.now in
    let at = c.args.at in
    let body = c.in_ok-read_table.field-0.now in
    let read = c.in_ok-read_table.ensures in
    let at2 = c.read_table.new.reader.at in
    let input2 = c.read_table.new.reader.input.now in
    let same = ap (λ (h : Hashing). d.loads h input2 at2) (sym c.deeper.ensures) in
    record {
      verdict =
          MatchResult-weaker c.judge.result c.judge.ensures.verdict
          (λ _ p. (record { filter = k.loaded at body; below = p.0 }, level_loads k d at c.tag_of.result me.at at2 me.input.now input2 body c.tag_of.ensures read.verdict.0 read.verdict.1 read.input p.0 c.judge.new.reader.at (same ∙ p.1)))
          (λ e q. level_refuses k d at c.tag_of.result me.at at2 me.input.now input2 body c.tag_of.ensures read.verdict.0 read.verdict.1 read.input e (same ∙ q));
      input = c.judge.ensures.input ∙ read.input;
    }
