use Rattle.std.proofs.Common.{ap, ◌∙◌}
use Rattle.filters.proofs.Refills.{whole_body}
use Rattle.filters.specs.TableRules.{load_allowed}
use Rattle.filters.specs.Tables.{TableView}
use Rattle.cuckoo.specs.Cuckoo.{cuckoo_scheme}
use Rattle.cuckoo.specs.Rules.{cuckoo_rules}
use Rattle.cuckoo.specs.Setting.{cuckoo_allows}
use Rattle.cuckoo.proofs.CuckooFilter.take_over.Goals as goal

pub invariant_of-self : goal.invariant_of-self
invariant_of-self c =
    record {
      allowed =
          ap
          (λ (v : TableView). cuckoo_allows v.settings.size v.settings.hashing.hashes)
          (c.refill.ensures ∙ whole_body cuckoo_scheme cuckoo_rules c.args.hashing c.args.body.now c.requires)
          ∙ load_allowed cuckoo_scheme c.args.hashing.hashes c.args.body.now c.requires;
    }

pub returns : goal.returns
returns c = c.refill.ensures ∙ whole_body cuckoo_scheme cuckoo_rules c.args.hashing c.args.body.now c.requires
