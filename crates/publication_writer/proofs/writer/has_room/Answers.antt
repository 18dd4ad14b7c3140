use Rattle.std.proofs.Common.{◌∙◌, arith}
use Rattle.std.proofs.lemmas.Bool.{lt-leb}
use Rattle.publications.proofs.Writing.{no_room, some_room}
use Rattle.publication_writer.proofs.writer.has_room.Goals as goal

pub returns-then-left-ge22 : goal.returns-then-left-ge22
returns-then-left-ge22 g c h =
    let left = c.in-Some.ensures in
    let past = c.if-left-ge22.true in
    c.fits.ensures ∙ some_room h c.args.rows.now (g.D.Decider.decider.saved 1 (g.D.Decider.state c.args.levels.now)) c.args.room _ (omega arith)

pub returns-else-left-ge22 : goal.returns-else-left-ge22
returns-else-left-ge22 g c h =
    let left = c.in-Some.ensures in
    let short = c.if-left-ge22.false in
    lt-leb 22 c.in-Some.left short ∙ no_room h c.args.rows.now (g.D.Decider.decider.saved 1 (g.D.Decider.state c.args.levels.now)) c.args.room (omega arith)
