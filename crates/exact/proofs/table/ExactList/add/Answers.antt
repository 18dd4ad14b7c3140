use Rattle.std.proofs.Common.{◌≡◌, ℕ, ◌+◌, ◌≤◌, List, length, take, sym, ap, ◌∙◌, arith, rules}
use Rattle.passes.specs.Lawful.{lawful_length}
use Rattle.exact.specs.Rows.{pack, forms_of, added, place, keepable}
use Rattle.exact.specs.RowLaws.{forms_of_pack}
use Rattle.exact.specs.Adding.{added_length}
use Rattle.exact.specs.Exact.{ExactView}
use Rattle.exact.specs.Rules.{keepable_parts, keepable_from, added_keepable}
use Rattle.exact.proofs.Inserting.{place_in, roomy, inserted}
use Rattle.exact.proofs.table.ExactList.add.Goals as goal

pub insert_row-requires : goal.insert_row-requires
insert_row-requires c =
    let me = c.args.self.now in
    let x = c.args.form.now in
    let n = me.len in
    let l : n ≤ length me.table = omega (arith, me.sized.0, me.sized.1) in
    let k = keepable_parts (forms_of (take n me.table)) me.filled.0 in
    let at = c.place_of-at.ensures ∙ ap (λ (t : List ℕ). place x (forms_of t)) c.front.ensures in
    let p = place_in me.table n l me.filled.1 x in
    let r = roomy me.table n l me.filled.1 me.count k.shaped me.filled.2 c.requires.2 in
    let w = lawful_length c.requires.0 in
    (omega arith, omega (arith, me.sized.0), w.1)

pub invariant_of-self : goal.invariant_of-self
invariant_of-self c =
    let me = c.args.self.now in
    let x = c.args.form.now in
    let n = me.len in
    let m = n + (1 + length x) in
    let fs = forms_of (take n me.table) in
    let T = c.insert_row.new.table in
    let l : n ≤ length me.table = omega (arith, me.sized.0, me.sized.1) in
    let long : length T ≡ length me.table = search rules in
    let k = keepable_parts fs me.filled.0 in
    let at = c.place_of-at.ensures ∙ ap (λ (t : List ℕ). place x (forms_of t)) c.front.ensures in
    let e = inserted me.table n l me.filled.1 x T m c.place_of-at.result at c.insert_row.ensures in
    let f = ap forms_of e ∙ forms_of_pack (added x fs) in
    let r = roomy me.table n l me.filled.1 me.count k.shaped me.filled.2 c.requires.2 in
    let w = lawful_length c.requires.0 in
    let s = added_length x fs in
    record {
      sized = (long ∙ me.sized.0, omega arith, me.sized.2);
      filled = (
        ap keepable f ∙ keepable_from (added x fs) (added_keepable x fs c.requires.0 k c.requires.1 (omega (arith, me.filled.2, c.requires.2))),
        ap pack f ∙ sym e,
        omega (arith, me.filled.2, ap length f),
      );
    }

pub returns : goal.returns
returns c =
    let me = c.args.self.now in
    let x = c.args.form.now in
    let n = me.len in
    let fs = forms_of (take n me.table) in
    let T = c.insert_row.new.table in
    let l : n ≤ length me.table = omega (arith, me.sized.0, me.sized.1) in
    let at = c.place_of-at.ensures ∙ ap (λ (t : List ℕ). place x (forms_of t)) c.front.ensures in
    let e = inserted me.table n l me.filled.1 x T (n + (1 + length x)) c.place_of-at.result at c.insert_row.ensures in
    let view : List (List ℕ) → ExactView = λ gs. record { hashing = me.hashing; forms = gs } in
    ap view (ap forms_of e ∙ forms_of_pack (added x fs))
