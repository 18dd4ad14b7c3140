use Rattle.std.proofs.Common.{◌∙◌}
use Rattle.filters.proofs.Refills.{whole_body}
use Rattle.bloom.specs.Bloom.{bloom_scheme}
use Rattle.bloom.specs.Rules.{bloom_rules}
use Rattle.bloom.proofs.BloomFilter.take_over.Goals as goal

pub returns : goal.returns
returns c = c.refill.ensures ∙ whole_body bloom_scheme bloom_rules c.args.hashing c.args.body.now c.requires
