use Rattle.std.proofs.Common.{refl, rules}
use borrow.Author.Tests.{tests}
use Rattle.std.specs.Str.{bytes_eq}
use Rattle.std.proofs.lemmas.Iterator.Search.{any_from_yields_List}
use Rattle.std.proofs.lemmas.Iterator.Consumers.{YieldsList-from_first}
use Rattle.exact.specs.Rows.{forms_of}
use Rattle.exact.proofs.rows.has_form.Goals as goal

pub returns : goal.returns
returns c =
    any_from_yields_List (λ f. bytes_eq f c.args.form.now) c.any.new.self _ c.any.result c.any.ensures.ran
    (YieldsList-from_first (λ f. f.now) (λ s. forms_of s.0.now) (forms_of c.args.rows.now) refl)
    (λ f b q k. search (rules, tests))
