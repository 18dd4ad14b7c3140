use Rattle.std.proofs.Common.{◌≡◌, ℕ, ◌<◌, ◌/◌, true, ltb, List, length, Ok, Err, Some, None, Result, Option, sym, ap, ◌∙◌, arith, MatchResult}
use Rattle.std.proofs.lemmas.Bool.{lt-ltb}
use Rattle.std.specs.Result.{result_ok}
use Rattle.refusals.specs.declared.Reason.{Reason}
use Rattle.refusals.specs.declared.Reason.TheVariants.{BadValue}
use Rattle.publications.specs.declared.CoverageRow.{CoverageRow}
use Rattle.publications.specs.Reading.{row_at}
use Rattle.publications.proofs.Chunks.{row_there}
use Rattle.publication_layout.proofs.coverage.coverage_row.Goals as goal

-- a row that was read, without the reason of one that wasn't
found : (o : Option CoverageRow) (r : Result CoverageRow Reason) → MatchResult r (λ x. o ≡ Some x) (λ e. (o ≡ None) × (e ≡ BadValue)) → result_ok r ≡ o
found o (Ok x) e = sym e
found o (Err e) p = sym p.0

pub returns : goal.returns
returns c =
    let b = c.args.bytes.now in
    let i = c.args.index in
    let at = c.in_ok-get.ensures.lookup in
    let rows = c.as_chunks.result.0.now in
    let row = c.in_ok-get.field-0.now in
    let l : i < length b / 7 = omega (arith, c.as_chunks.ensures.front_len) in
    let t : ltb i (length b / 7) ≡ true = lt-ltb i (length b / 7) l in
    rw t (c.ok.ensures.value ∙ found (row_at row 0) c.row_in.result c.row_in.ensures ∙ ap (λ (x : List ℕ). row_at x 0) at.1 ∙ row_there b rows i row c.as_chunks.ensures.front l)
