use Rattle.std.proofs.Common.{ℕ, ◌<◌, get_or, Ok, Err, sym, ap, ◌∙◌, rules}
use Rattle.std.proofs.lemmas.Result.{err_from_is_err_and}
use Rattle.passes.specs.ByteLaws.{bytes_from}
use Rattle.fields.specs.Reading.{then}
use Rattle.sheets.specs.Reading.{reads, summary}
use Rattle.sheets.specs.Stages.{word_of, content_of, standing}
use Rattle.sheets.proofs.Layouts.{layout_law, judge_decides}
use Rattle.sheets.proofs.Turns.{at_start, again_head, again_word, at_end, at_refusal}
use Rattle.sheet_layout.proofs.judging.judge_sheet.Goals as goal

pub fields-init : goal.fields-init
fields-init c =
    let made = c.new-reader.ensures in
    let reader = c.new-reader.result in
    let t = at_start reader.stage c.args.input.now reader.last.now reader.reader.at (record { number = 0; step = 0 }) made.1 made.2 made.3 in
    (made.0, t.0, t.1)

pub returns-in_err-head : goal.returns-in_err-head
returns-in_err-head c =
    let p = err_from_is_err_and c.from_residual.result c.from_residual.ensures.1 in
    let input = c.args.input.now in
    let low : (i : ℕ) → get_or input i 0 < 256 = λ i. search rules in
    let now = c.fields.reader in
    let inv = c.fields.invariant in
    let step = c.in_err-head.ensures.step in
    let e = p.1 ∙ at_refusal now.stage now.reader.input.now input now.last.now now.reader.at c.fields.sheet (then (reads input) (λ s. Ok (summary s))) inv.0 inv.1 p.0 (step ∙ ap Err (sym p.2)) in
    record { value = e; meaning = judge_decides input c.from_residual.result (bytes_from input low) e; law = layout_law }

pub fields-preserved-in-Head : goal.fields-preserved-in-Head
fields-preserved-in-Head c =
    let input = c.args.input.now in
    let now = c.fields.reader in
    let next = c.next.new.self in
    let inv = c.fields.invariant in
    let got = c.in_ok-head.ensures in
    let t = again_head now.stage now.reader.input.now input now.last.now now.reader.at c.fields.sheet (then (reads input) (λ s. Ok (summary s))) inv.0 inv.1 (content_of c.in_ok-head.field-0) c.in-Head.head (standing next.stage next.last.now next.reader.at) got.step (ap content_of c.in-Head.is) inv.2 in
    (got.input ∙ inv.0, t.0, t.1)

pub fields-preserved : goal.fields-preserved
fields-preserved c =
    let input = c.args.input.now in
    let now = c.fields.reader in
    let next = c.next.new.self in
    let inv = c.fields.invariant in
    let got = c.in_ok-head.ensures in
    let t = again_word now.stage now.reader.input.now input now.last.now now.reader.at c.fields.sheet (then (reads input) (λ s. Ok (summary s))) inv.0 inv.1 (content_of c.in_ok-head.field-0) (word_of c.in-Word.field-0) (standing next.stage next.last.now next.reader.at) got.step (ap content_of c.in-Word.is) inv.2 in
    (got.input ∙ inv.0, t.0, t.1)

pub returns-in-End : goal.returns-in-End
returns-in-End c =
    let input = c.args.input.now in
    let low : (i : ℕ) → get_or input i 0 < 256 = λ i. search rules in
    let now = c.fields.reader in
    let next = c.next.new.self in
    let inv = c.fields.invariant in
    let got = c.in_ok-head.ensures in
    let e = at_end now.stage now.reader.input.now input now.last.now now.reader.at c.fields.sheet (then (reads input) (λ s. Ok (summary s))) inv.0 inv.1 (content_of c.in_ok-head.field-0) (standing next.stage next.last.now next.reader.at) got.step (ap content_of c.in-End.is) in
    record { value = e; meaning = judge_decides input (Ok c.fields.sheet) (bytes_from input low) e; law = layout_law }
