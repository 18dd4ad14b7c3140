use Rattle.std.proofs.Common.{◌<◌, ◌/◌, length, is_some, Some, sym, ap, ◌∙◌, arith}
use Rattle.std.proofs.lemmas.Result.{err_from_is_err_and}
use Rattle.publications.proofs.Rows.{not_allowed, repeated, goes_on, no_more}
use Rattle.publications.proofs.Chunks.{row_there, same_there}
use Rattle.publication_layout.proofs.coverage.judge_rows.Goals as goal

pub returns-in_err-row_in : goal.returns-in_err-row_in
returns-in_err-row_in c =
    let b = c.args.bytes.now in
    let i = c.loop-i.i in
    let p = err_from_is_err_and c.from_residual.result c.from_residual.ensures.1 in
    let l : i < length b / 7 = omega (arith, c.loop-i-test.true, c.as_chunks.ensures.front_len) in
    let none = sym (row_there b c.as_chunks.result.0.now i _ c.as_chunks.ensures.front l) ∙ c.in_err-row_in.ensures.0 in
    rw p.1 (c.loop-i.invariant ∙ not_allowed i b (length b / 7) l (ap is_some none) ∙ ap Some (sym c.in_err-row_in.ensures.1 ∙ sym p.2))

pub returns-then-repeats : goal.returns-then-repeats
returns-then-repeats c =
    let b = c.args.bytes.now in
    let i = c.loop-i.i in
    let l : i < length b / 7 = omega (arith, c.loop-i-test.true, c.as_chunks.ensures.front_len) in
    let rows = c.as_chunks.result.0.now in
    let some = sym (row_there b rows i _ c.as_chunks.ensures.front l) ∙ c.in_ok-row_in.ensures in
    c.loop-i.invariant ∙ repeated i b (length b / 7) l (ap is_some some) (sym (same_there b rows i _ c.as_chunks.ensures.front l) ∙ sym c.repeats.ensures ∙ c.if-repeats.true)

pub loop-i-preserved : goal.loop-i-preserved
loop-i-preserved c =
    let b = c.args.bytes.now in
    let i = c.loop-i.i in
    let l : i < length b / 7 = omega (arith, c.loop-i-test.true, c.as_chunks.ensures.front_len) in
    let rows = c.as_chunks.result.0.now in
    let some = sym (row_there b rows i _ c.as_chunks.ensures.front l) ∙ c.in_ok-row_in.ensures in
    c.loop-i.invariant ∙ goes_on i b (length b / 7) l (ap is_some some) (sym (same_there b rows i _ c.as_chunks.ensures.front l) ∙ sym c.repeats.ensures ∙ c.if-repeats.false)

pub returns : goal.returns
returns c =
    let b = c.args.bytes.now in
    c.loop-i.invariant ∙ no_more c.loop-i.i (length b / 7) b (omega (arith, c.loop-i-test.false, c.as_chunks.ensures.front_len))
