use Rattle.std.proofs.Common.{◌+◌, ◌-◌, length, set}
use borrow.Rule.Slice.PartMut.{put_mid}
use Rattle.exact.proofs.Inserting.{behind_last, turned_in}
use Rattle.exact.proofs.rows.insert_row.Goals as goal

pub returns : goal.returns
returns c =
    let T = c.args.table.now in
    let f = c.args.form.now in
    let n = c.args.n in
    let at = c.args.at in
    let part = c.copy_from_slice.new.self in
    let e = c.copy_from_slice.ensures.after in
    let U = put_mid (n + 1) (n + 1 + length f - (n + 1)) (set T n (length f)) part in
    turned_in T f part n at c.requires.0 c.requires.1 e U c.rotate_right.new.self (behind_last T f part n at c.requires.0 c.requires.1 e) c.rotate_right.ensures.after
