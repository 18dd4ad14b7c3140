use Rattle.publications.proofs.Writing.{publication_wrote}
use Rattle.publication_writer.proofs.writer.fill_publication.Goals as goal

pub returns : goal.returns
returns g c =
    let h = c.args.head in
    let rs = c.args.rows.now in
    let tables = g.D.Decider.decider.saved 1 (g.D.Decider.state c.args.levels.now) in
    let out = c.args.out.now in
    let out1 = c.write_head.new.out in
    publication_wrote h rs tables out out1 c.requires c.write_head.ensures c.write_coverage.new.out c.in_ok-start.field-0 c.in_ok-start.ensures c.save.new.out c.in_ok-end.field-0 c.in_ok-end.ensures c.seal.result c.seal.new.out c.seal.ensures
