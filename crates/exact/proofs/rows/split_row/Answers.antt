use Rattle.std.proofs.Common.{◌≤◌, length, get_or, arith}
use Rattle.exact.proofs.Walks.{split_form, split_rest, forms_split}
use Rattle.exact.proofs.rows.split_row.Goals as goal

pub returns : goal.returns
returns c =
    let xs = c.args.rows.now in
    let e = c.min-end.ensures in
    let form = split_form xs (get_or xs 0 0) c.min-end.result e in
    let rest = split_rest xs (get_or xs 0 0) c.min-end.result e in
    let l : 1 ≤ length xs = omega arith in
    (form, rest, l, forms_split xs _ _ l form rest)
