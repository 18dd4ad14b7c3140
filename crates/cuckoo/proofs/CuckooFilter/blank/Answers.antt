use Rattle.std.proofs.Common.{ap, ◌∙◌}
use Rattle.filters.specs.Tables.{TableView}
use Rattle.cuckoo.specs.Setting.{cuckoo_allows}
use Rattle.cuckoo.specs.Rules.{first_allowed}
use Rattle.cuckoo.proofs.CuckooFilter.blank.Goals as goal

pub invariant_of-result : goal.invariant_of-result
invariant_of-result c = record { allowed = ap (λ (v : TableView). cuckoo_allows v.settings.size v.settings.hashing.hashes) c.new.ensures ∙ first_allowed }
