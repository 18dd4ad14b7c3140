use Rattle.cuckoo.specs.Rules.{mates_low}
use Rattle.cuckoo.proofs.table.Cuckoo.partner.Goals as goal

pub returns-clause-low : goal.returns-clause-low
returns-clause-low c = mates_low c.args.self.now.table.settings c.args.self.now.allowed c.args.at.bucket c.args.at.fingerprint c.requires
