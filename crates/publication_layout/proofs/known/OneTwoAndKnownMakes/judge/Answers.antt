use Rattle.std.proofs.Common.{refl, ne_eqb}
use Rattle.publications.proofs.Steps.{make_none, none_read}
use Rattle.publication_layout.proofs.known.OneTwoAndKnownMakes.judge.Goals as goal

pub returns-else-head-eq2 : goal.returns-else-head-eq2
returns-else-head-eq2 g c =
    let me = c.args.reader.now in
    let head = c.args.head in
    let none = make_none g.A.Decider.saves.tables g.B.Decider.saves.tables g.G.Decider.saves.tables c.args.self.now.own head.make (ne_eqb _ _ c.if-head-self.false) (ne_eqb _ _ c.if-head-eq1.false) (ne_eqb _ _ c.if-head-eq2.false) in
    record { verdict = none_read _ head.hashes me.input.now me.at none; input = refl }
