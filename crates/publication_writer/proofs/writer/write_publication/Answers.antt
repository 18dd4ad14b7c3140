use Rattle.std.proofs.Common.{sym, ◌∙◌}
use Rattle.publications.specs.Publications.{published}
use Rattle.publications.proofs.Built.{writer_law}
use Rattle.publications.proofs.Writing.{not_written}
use Rattle.publication_writer.proofs.writer.write_publication.Goals as goal

pub returns-then-not-has_room : goal.returns-then-not-has_room
returns-then-not-has_room g c =
    let bytes = published c.args.head c.args.rows.now (g.D.Decider.decider.saved 1 (g.D.Decider.state c.args.levels.now)) in
    record { written = not_written bytes c.args.out.now (sym (c.has_room.ensures c.args.head) ∙ c.if-not-has_room.true); law = writer_law g.D.Decider.decider g.D.Decider.saves g.met.D.Tabled.saves_tables }

pub returns : goal.returns
returns g c = record { written = c.fill_publication.ensures; law = writer_law g.D.Decider.decider g.D.Decider.saves g.met.D.Tabled.saves_tables }
