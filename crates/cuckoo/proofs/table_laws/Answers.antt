use Rattle.std.proofs.Common.{refl}
use Rattle.std.proofs.lemmas.Bool.{cond-true}
use Rattle.cuckoo.specs.Powers.{powers}
use Rattle.cuckoo.specs.Cuckoo.{cuckoo_says}
use Rattle.cuckoo.specs.Rules.{partner_twice, partner_low}
use Rattle.cuckoo.proofs.table_laws.Goals as goal

pub returns : goal.returns
returns c = (
  record {
    partners = λ b e i f two l. (partner_low b e two i f l, partner_twice b i f);
    sizes = powers;
    found = λ s cells x h. cond-true (cuckoo_says s cells x) _ _ h;
  },
  refl,
)
