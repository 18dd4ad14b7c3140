use Rattle.std.proofs.Common.{◌*◌, take, ◌∙◌, arith, rules}
use borrow.Author.Tests.{tests}
use Rattle.std.proofs.lemmas.Iterator.{YieldsList-from_range}
use Rattle.std.proofs.lemmas.Iterator.Search.{all_from_yields_List}
use Rattle.bloom.specs.Bits.{bit, position}
use Rattle.bloom.proofs.Steps.{all_told}
use Rattle.bloom.proofs.table.Bloom.has.Goals as goal

pub returns : goal.returns
returns c =
    let me = c.args.self.now.table in
    let h = c.args.pair in
    let N = 8 * me.settings.size in
    let k = me.settings.hashing.hashes in
    let t = take me.settings.size me.buffer in
    all_from_yields_List (λ i. bit t (position h.h1 h.h2 N i)) _ _ c.all.result c.all.ensures.ran (YieldsList-from_range 0 k k (cc) (omega arith)) (λ i r q e. search (rules, tests)) ∙ all_told h.h1 h.h2 N t k
