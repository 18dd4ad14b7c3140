use Rattle.std.proofs.Common.{inl, arith}
use Rattle.exact.proofs.Walks.{forms_few}
use Rattle.exact.proofs.rows.count_rows.Goals as goal

pub count-requires-clause-fits : goal.count-requires-clause-fits
count-requires-clause-fits c = let l = forms_few c.args.rows.now in inl (omega arith)
