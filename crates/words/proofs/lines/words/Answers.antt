use Rattle.std.proofs.Common.{◌≡◌, map, length, vec_items, sym, ap, ◌∙◌, arith}
use Rattle.words.specs.Lines.{words_of}
use Rattle.words.proofs.Steps.{blank_turn, letter_turn, line_end}
use Rattle.words.proofs.lines.words.Goals as goal
use Rattle.words.proofs.lines.words.Goals.{then-is_blank+in_ok-add, else-is_blank}

pub loop-i-preserved : goal.loop-i-preserved
loop-i-preserved c =
    let line = c.args.line.now in
    let old = c.loop-i in
    let ws = map (λ w. w.now) (vec_items old.all) in
    let more = map (λ w. w.now) (vec_items c.if-is_blank.all) in
    let next = c.if-is_blank.start in
    elim c.if-is_blank.branch [
      | then-is_blank+in_ok-add w ↦
          blank_turn line old.start old.i old.invariant.0 ws (words_of line) old.invariant.1 more next c.loop-i-test.true (sym w.if-is_blank.ensures)
          (ap (λ v. map (λ w. w.now) (vec_items v)) w.all-is ∙ w.in_ok-add.ensures) w.start-is
      | else-is_blank w ↦
          letter_turn line old.start old.i old.invariant.0 ws (words_of line) old.invariant.1 more next c.loop-i-test.true (sym w.if-is_blank.ensures)
          (ap (λ v. map (λ w. w.now) (vec_items v)) w.all-is) w.start-is
    ]

pub returns : goal.returns
returns c =
    let line = c.args.line.now in
    let old = c.loop-i in
    let ws = map (λ w. w.now) (vec_items old.all) in
    let at : old.i ≡ length line = omega arith in
    line_end line old.start old.i old.invariant.0 ws (words_of line) old.invariant.1 (map (λ w. w.now) (vec_items c.add-2.new.all)) at c.in_ok-add-2.ensures
