-- A check behind what was written.
use Rattle.std.proofs.Common.{◌≡◌, ℕ, ◌+◌, ◌≤◌, leb, List, ◌++◌, length, take, drop, Some, None, Option, sym, ap, ◌∙◌, arith}
use Rattle.std.proofs.lemmas.List.{length-append, drop_at, drop-drop, take_at}
use Rattle.std.proofs.lemmas.Bool.{cond-true, le-leb}
use Rattle.passes.specs.Outputs.{written_to}
use Rattle.passes.proofs.Outputs.{Wrote, as_long}
use Rattle.fields.specs.Reading.{check_field, checked}
use Rattle.fields.specs.Sealing.{sealed}
use Rattle.fields.proofs.Readback.{check_length}

-- what was written, and its check behind it, are one writing, if that fits the output as it was
pub seal_wrote : (front out out1 : List ℕ) (n : ℕ) → Wrote front out out1 n → length (checked front) ≤ length out → sealed n out1 ≡ written_to (checked front) out
seal_wrote front out out1 n w fits =
    let yes_way : Option ℕ × List ℕ = (Some (length (checked front)), checked front ++ drop (length (checked front)) out) in
    let no_way : Option ℕ × List ℕ = (None, out) in
    let yes_here : Option ℕ × List ℕ = (Some (n + 7), checked (take n out1) ++ drop (n + 7) out1) in
    let no_here : Option ℕ × List ℕ = (None, out1) in
    let size = w.size in
    let seven = check_length front in
    let whole = length-append front (check_field front) in
    let long = as_long front out out1 n w in
    let total : n + 7 ≡ length (checked front) = omega arith in
    let before : take n out1 ≡ front = ap (take n) w.bytes ∙ take_at front (drop (length front) out) n (sym size) in
    let past : drop n out1 ≡ drop (length front) out = ap (drop n) w.bytes ∙ drop_at front (drop (length front) out) n (sym size) in
    let sum : n + 7 ≡ 7 + n = omega arith in
    let up : 7 + length front ≡ length (checked front) = omega arith in
    let flip : length front + 7 ≡ 7 + length front = omega arith in
    let rest : drop (n + 7) out1 ≡ drop (length (checked front)) out =
    sym (drop-drop 7 n out1) ∙ ap (drop 7) past ∙ drop-drop 7 (length front) out ∙ ap (λ (k : ℕ). drop k out) (flip ∙ up)
    in
    cond-true (leb (n + 7) (length out1)) yes_here no_here (le-leb (n + 7) (length out1) (omega arith))
    ∙ ap (λ (t : List ℕ). (Some (n + 7), checked t ++ drop (n + 7) out1)) before
    ∙ ap (λ (t : List ℕ). (Some (n + 7), checked front ++ t)) rest
    ∙ ap (λ (k : ℕ). (Some k, checked front ++ drop (length (checked front)) out)) total
    ∙ sym (cond-true (leb (length (checked front)) (length out)) yes_way no_way (le-leb (length (checked front)) (length out) fits))
