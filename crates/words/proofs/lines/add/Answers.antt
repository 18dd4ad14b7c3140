use Rattle.std.proofs.Common.{◌++◌, map, vec_items, sym, ap, ◌∙◌, rules}
use mathlib.Core.List.{map-append}
use Rattle.words.proofs.Steps.{ended_some}
use Rattle.words.proofs.lines.add.Goals as goal

pub returns-in_ok-push : goal.returns-in_ok-push
returns-in_ok-push c =
    let old = vec_items c.args.all.now in
    ap (map (λ w. w.now)) c.in_ok-push.ensures.items ∙ map-append (λ w. w.now) old _
    ∙ ap (λ ws. map (λ w. w.now) old ++ ws) (sym (ended_some c.args.word.now (search rules)))
