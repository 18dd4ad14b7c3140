use Rattle.std.proofs.Common.{◌≤◌, length, sym, ap, ◌∙◌, arith}
use Rattle.filters.specs.Fronts.{front_is, front_length}
use Rattle.exact.specs.Rows.{pack, forms_of, keepable}
use Rattle.exact.specs.Rules.{accepted_parts, rows_held, held_keepable, keepable_from}
use Rattle.exact.proofs.ExactListFilter.take_over.Goals as goal

pub invariant_of-self : goal.invariant_of-self
invariant_of-self c =
    let me = c.args.self.now in
    let body = c.args.body.now in
    let a = accepted_parts c.args.hashing.hashes body c.requires in
    let part = c.copy_from_slice.new.self in
    let e = c.copy_from_slice.ensures.after in
    let l : length body ≤ length me.table = omega (arith, a.short, me.sized.0) in
    let f = front_is (length body) part me.table (ap length e) l ∙ e in
    let fs = ap forms_of f in
    record {
      sized = (front_length (length body) part me.table (ap length e) l ∙ me.sized.0, a.short, a.counted);
      filled = (
        ap keepable fs ∙ keepable_from (forms_of body) (held_keepable body a.fine_rows),
        ap pack fs ∙ (rows_held body a.fine_rows).packed ∙ sym f,
        c.count_rows-self.ensures ∙ ap length (sym fs),
      );
    }
