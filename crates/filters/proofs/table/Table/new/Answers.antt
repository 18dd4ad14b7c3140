use Rattle.std.proofs.Common.{ℕ, List, take, replicate, min, ap, ◌∙◌}
use Rattle.std.proofs.Math.Nat.{min-le_right}
use Rattle.std.proofs.lemmas.List.{take-replicate}
use Rattle.filters.specs.Tables.{TableView, bounded}
use Rattle.filters.proofs.table.Table.new.Goals as goal

pub returns : goal.returns
returns c =
    let s = c.args.settings in
    let view : List ℕ → TableView = λ t. record { settings = bounded s; table = t } in
    let at : ℕ → TableView = λ n. record { settings = record { hashing = s.hashing; size = n }; table = take n (replicate 2048 0) } in
    ap at c.min.ensures ∙ ap view (take-replicate (min s.size 2048) 2048 0 (min-le_right s.size 2048))
