-- A register marked by its sides.
use Rattle.std.proofs.Common.{◌≡◌, ℕ, suc, ◌<◌, List, [], ◌∷◌, length, get_or, refl, ap, ◌∙◌, arith}
use Rattle.levels.specs.declared.Entry.{Entry}
use Rattle.levels.specs.Rows.{Row, rows, mark_of, listed}

-- marks by sides make the rows of a register
pub rows_listed : {I : Type 0} (f : I → List ℕ) (es : List (Entry I)) (ms : List ℕ) → length es ≡ length ms → ((j : ℕ) (e : Entry I) → j < length es → get_or ms j 0 ≡ mark_of (get_or es j e).side) → rows f es ms ≡ listed f es
rows_listed f [] ms n h = refl
rows_listed f (x ∷ es) [] n h = absurd (omega arith)
rows_listed f (x ∷ es) (m ∷ ms) n h =
    let here : m ≡ mark_of x.side = h 0 x (omega arith) in
    let rest = rows_listed f es ms (omega arith) (λ j e l. h (suc j) e (omega arith)) in
    ap (λ (y : ℕ). record { form = f x.id; mark = y } ∷ rows f es ms) here ∙ ap (λ (rs : List Row). record { form = f x.id; mark = mark_of x.side } ∷ rs) rest

pub length_listed : {I : Type 0} (f : I → List ℕ) (es : List (Entry I)) → length (listed f es) ≡ length es
length_listed f [] = refl
length_listed f (x ∷ es) = ap suc (length_listed f es)
