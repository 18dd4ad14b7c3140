-- The body of a head.
use Rattle.std.proofs.Common.{◌≡◌, ℕ, true, List, [], ◌∷◌, ◌++◌, length, get_or, sym, ap, ◌∙◌}
use Rattle.passes.specs.Bytes.{bytes, be2}
use Rattle.fields.specs.Reading.{four, two, be4}
use Rattle.fields.proofs.Numbers.{all_listed, be4_four, be2_two}

pub head_body : (b : List ℕ) (n s : ℕ) → bytes b ≡ true → length b ≡ 7 → get_or b 0 0 ≡ 1 → n ≡ four b 1 → s ≡ two b 5 → b ≡ 1 ∷ (be4 n ++ be2 s)
head_body b n s h l o e f =
    let a = all_listed 7 0 b l in
    let p = be4_four b 1 n h e in
    let q = be2_two b 5 s h f in
    let joined : List ℕ → List ℕ → List ℕ = λ x y. 1 ∷ (x ++ y) in
    let z = ap (λ (t : List ℕ). joined t (be2 s)) p ∙ ap (joined (get_or b 1 0 ∷ get_or b 2 0 ∷ get_or b 3 0 ∷ get_or b 4 0 ∷ [])) q in
    a ∙ ap (λ (x : ℕ). x ∷ get_or b 1 0 ∷ get_or b 2 0 ∷ get_or b 3 0 ∷ get_or b 4 0 ∷ get_or b 5 0 ∷ get_or b 6 0 ∷ []) o ∙ sym z
