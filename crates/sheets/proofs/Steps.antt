-- The word in a body.
use Rattle.std.proofs.Common.{◌≡◌, ℕ, ◌+◌, ◌≤◌, true, false, ◌&&◌, leb, List, length, get_or, drop, Ok, sym, ap, ◌∙◌, ⊎_elim, arith, length-drop}
use Rattle.std.proofs.lemmas.Bool.{cases_Bool, cond-true, cond-false, leb-true, and_parts}
use Rattle.refusals.specs.declared.Reason.TheVariants.{BadValue, NotAscending}
use Rattle.passes.specs.Lawful.{lawful}
use Rattle.passes.specs.Order.{before}
use Rattle.fields.proofs.Steps.{never}
use Rattle.sheets.specs.Sides.{side_of}
use Rattle.sheets.specs.Sheets.{Word}
use Rattle.sheets.specs.Reading.{word_in}

-- the parts of a word that was found
pub record Found (last b : List ℕ) (w : Word) : Type 0 where
  pub side_low : get_or b 0 0 ≤ 1
  pub shaped : lawful (drop 1 b) ≡ true
  pub above : before last (drop 1 b) ≡ true
  pub side_is : w.side ≡ side_of (get_or b 0 0)
  pub form_is : w.form ≡ drop 1 b

pub found_word : (last b : List ℕ) (w : Word) → word_in last b ≡ Ok w → Found last b w
found_word last b w e =
    let form = drop 1 b in
    let made : Word = record { side = side_of (get_or b 0 0); form = form } in
    ⊎_elim
    (λ (t : (leb (get_or b 0 0) 1 && lawful (drop 1 b)) ≡ true).
    let f = sym (cond-true (leb (get_or b 0 0) 1 && lawful (drop 1 b)) _ _ t) ∙ e in
    let p = and_parts (leb (get_or b 0 0) 1) (lawful form) t in
    ⊎_elim
    (λ (u : before last (drop 1 b) ≡ true).
    let g = sym (cond-true (before last (drop 1 b)) _ _ u) ∙ f in
    let q : made ≡ w = cc in
    record { side_low = leb-true (get_or b 0 0) 1 p.0; shaped = p.1; above = u; side_is = sym (ap (λ (x : Word). x.side) q); form_is = sym (ap (λ (x : Word). x.form) q) })
    (λ (u : before last (drop 1 b) ≡ false). absurd (never NotAscending w (sym (cond-false (before last (drop 1 b)) _ _ u) ∙ f)))
    (cases_Bool (before last (drop 1 b))))
    (λ (t : (leb (get_or b 0 0) 1 && lawful (drop 1 b)) ≡ false). absurd (never BadValue w (sym (cond-false (leb (get_or b 0 0) 1 && lawful (drop 1 b)) _ _ t) ∙ e)))
    (cases_Bool (leb (get_or b 0 0) 1 && lawful (drop 1 b)))

pub word_end : (last b : List ℕ) (w : Word) (at at2 : ℕ) → word_in last b ≡ Ok w → 5 ≤ length b → at2 ≡ at + (3 + length b) → at2 ≡ at + (4 + length w.form)
word_end last b w at at2 e l p =
    let f = ap length (found_word last b w e).form_is ∙ length-drop 1 b in
    omega arith
