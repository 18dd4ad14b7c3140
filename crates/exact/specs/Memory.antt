-- What an exact list in memory means.
use Rattle.std.specs.Prelude.{take}
use Rattle.exact.specs.Exact.{ExactView, exact_view}
use Rattle.exact.specs.declared.table.ExactList.{ExactList}

abbrev pub view_of : ExactList → ExactView
view_of e = exact_view e.hashing (take e.len e.table)
