use Rattle.std.proofs.Common.{◌+◌, length, ap, ◌∙◌, rules, arith}
use borrow.Author.Tests.{tests}
use borrow.Author.Rules.{of_calls}
use Rattle.std.proofs.lemmas.Iterator.{YieldsList-from_map}
use Rattle.std.proofs.lemmas.Iterator.Search.{YieldsList-from_take_while}
use Rattle.std.proofs.lemmas.Iterator.Consumers.{YieldsList-at, YieldsList-from_first, sum_from_yields_List, fits_from_yields_list}
use Rattle.passes.specs.Order.{before}
use Rattle.exact.specs.declared.rows.Rows.{Rows}
use Rattle.exact.specs.Rows.{forms_of}
use Rattle.exact.proofs.Walks.{sum_before, place_rows}
use Rattle.exact.proofs.rows.place_of.Goals as goal

pub sum-requires : goal.sum-requires
sum-requires c =
    let p = place_rows c.args.form.now c.args.rows.now in
    let e = sum_before c.args.form.now (forms_of c.args.rows.now) in
    record {
      can = search of_calls;
      finite = search of_calls;
      fits =
          fits_from_yields_list c.map.result _
          (YieldsList-from_map _ (λ f. 1 + length f)
          (YieldsList-at c.map.ensures.source
          (YieldsList-from_take_while _ (λ f. before f c.args.form.now) (YieldsList-from_first (λ f. f.now) (λ s. forms_of s.0.now) (forms_of c.args.rows.now) (ap (λ (s : Rows). forms_of s.0.now) c.take_while.ensures.source)) c.take_while.ensures.closure c.take_while.ensures.done (λ f b q k. search (rules, tests))))
          c.map.ensures.closure (λ f r q k. search (rules, tests)))
          (omega arith);
    }

pub returns : goal.returns
returns c =
    sum_from_yields_List c.map.result c.sum.result c.sum.ensures.ran
    (YieldsList-from_map _ (λ f. 1 + length f)
    (YieldsList-at c.map.ensures.source
    (YieldsList-from_take_while _ (λ f. before f c.args.form.now) (YieldsList-from_first (λ f. f.now) (λ s. forms_of s.0.now) (forms_of c.args.rows.now) (ap (λ (s : Rows). forms_of s.0.now) c.take_while.ensures.source)) c.take_while.ensures.closure c.take_while.ensures.done (λ f b q k. search (rules, tests))))
    c.map.ensures.closure (λ f r q k. search (rules, tests)))
    ∙ sum_before c.args.form.now (forms_of c.args.rows.now)
