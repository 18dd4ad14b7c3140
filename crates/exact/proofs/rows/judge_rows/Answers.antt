use Rattle.std.proofs.Common.{◌≡◌, ℕ, ◌-◌, true, false, List, get_or, drop, Err, Result, sym, ap, ◌∙◌}
use Rattle.refusals.specs.declared.Refusal.{Refusal}
use Rattle.filters.specs.Kind.{Content, fine, misvalued, content_reason}
use Rattle.filters.specs.Answers.{answered}
use Rattle.passes.specs.Lawful.{lawful}
use Rattle.passes.specs.Order.{before}
use Rattle.exact.specs.Rows.{first_form, behind_first, whole, judge_from}
use Rattle.exact.proofs.Walks.{judge_full, judge_broken, judge_unlawful, judge_unsorted, judge_further, judge_end}
use Rattle.exact.proofs.Packings.{judge_decides, packing_law}
use Rattle.exact.proofs.rows.judge_rows.Goals as goal
use Rattle.exact.proofs.rows.judge_rows.Goals.{then-room-eq0-via-then-room-eq0, then-room-eq0-via-else-room-eq0+then-not-is_whole, then-room-eq0-via-else-room-eq0+else-not-is_whole+then-not-is_lawful}

answer : Content → Result (Unit {0}) Refusal
answer k = answered (content_reason k)

refused : Refusal → Result (Unit {0}) Refusal
refused r = Err r

pub returns-then-room-eq0 : goal.returns-then-room-eq0
unfolding answer refused
returns-then-room-eq0 c =
    let left = c.rows.left.now in
    let last = c.rows.last.now in
    let room = c.rows.room in
    let k = c.in-Some.ensures in
    let m : judge_from room last left ≡ misvalued =
    elim c.then-room-eq0.branch [
      | then-room-eq0-via-then-room-eq0 w ↦ judge_full last left k.2 room w.if-room-eq0.true
      | then-room-eq0-via-else-room-eq0+then-not-is_whole w ↦ judge_broken last left k.2 room (sym w.is_whole.ensures ∙ w.if-not-is_whole.true)
      | then-room-eq0-via-else-room-eq0+else-not-is_whole+then-not-is_lawful w ↦ judge_unlawful last left k.2 room (ap lawful (sym k.0) ∙ sym w.is_lawful.ensures.value ∙ w.if-not-is_lawful.true)
    ] in
    let v = ap refused c.into.ensures ∙ ap answer (sym m ∙ c.rows.invariant) in
    record { value = v; meaning = judge_decides c.args.body.now (refused c.into.result) v; law = packing_law }

pub returns-then-not-precedes : goal.returns-then-not-precedes
unfolding answer refused
returns-then-not-precedes c =
    let left = c.rows.left.now in
    let last = c.rows.last.now in
    let k = c.in-Some.ensures in
    let w : whole (get_or left 0 0) (drop 1 left) ≡ true = sym c.is_whole.ensures ∙ c.if-not-is_whole.false in
    let f : lawful (first_form left) ≡ true = ap lawful (sym k.0) ∙ sym c.is_lawful.ensures.value ∙ c.if-not-is_lawful.false in
    let b : before last (first_form left) ≡ false = ap (before last) (sym k.0) ∙ sym c.precedes.ensures ∙ c.if-not-precedes.true in
    let v = ap refused c.into-then-not-precedes.ensures ∙ ap answer (sym (judge_unsorted last left k.2 w f c.rows.room c.if-room-eq0.false b) ∙ c.rows.invariant) in
    record { value = v; meaning = judge_decides c.args.body.now (refused c.into-then-not-precedes.result) v; law = packing_law }

pub rows-preserved : goal.rows-preserved
rows-preserved c =
    let left = c.rows.left.now in
    let last = c.rows.last.now in
    let room = c.rows.room in
    let k = c.in-Some.ensures in
    let w : whole (get_or left 0 0) (drop 1 left) ≡ true = sym c.is_whole.ensures ∙ c.if-not-is_whole.false in
    let f : lawful (first_form left) ≡ true = ap lawful (sym k.0) ∙ sym c.is_lawful.ensures.value ∙ c.if-not-is_lawful.false in
    let b : before last (first_form left) ≡ true = ap (before last) (sym k.0) ∙ sym c.precedes.ensures ∙ c.if-not-precedes.false in
    ap (λ (t : List ℕ). judge_from (room - 1) c.in-Some.form.now t) k.1
    ∙ ap (λ (t : List ℕ). judge_from (room - 1) t (behind_first left)) k.0
    ∙ judge_further last left k.2 w f room c.if-room-eq0.false b
    ∙ c.rows.invariant

pub returns : goal.returns
unfolding answer
returns c =
    let v = ap answer (sym (ap (judge_from c.rows.room c.rows.last.now) c.in_default.ensures ∙ judge_end c.rows.room c.rows.last.now) ∙ c.rows.invariant) in
    record { value = v; meaning = judge_decides c.args.body.now (answer fine) v; law = packing_law }
