use Rattle.std.proofs.Common.{ℕ, ◌<◌, get_or, ◌∙◌, rules}
use Rattle.std.proofs.lemmas.Bool.Decides.{Decides-at}
use Rattle.passes.specs.Lawful.{lawful}
use Rattle.passes.specs.ByteLaws.{bytes_from}
use Rattle.passes.proofs.Shapes.{decides_lawful, lawful_long}
use Rattle.passes.proofs.reading.is_lawful.Goals as goal

pub returns : goal.returns
returns c =
    let xs = c.args.bytes.now in
    let low : (i : ℕ) → get_or xs i 0 < 256 = λ i. search rules in
    let e = c.may_begin.ensures ∙ lawful_long xs c.if-bytes-lt4.false (bytes_from xs low) in
    record { value = e; meaning = Decides-at _ (lawful xs) e (decides_lawful xs) }
