use Rattle.std.proofs.Common.{◌≡◌, vec_items}
use Rattle.desk.specs.Drafts.{span_words}
use Rattle.desk.proofs.draft.span_words.Given as goal

abbrev pub invariant-passes : goal.invariant-passes
invariant-passes l = vec_items l.fields ≡ span_words l.side l.span l.i
