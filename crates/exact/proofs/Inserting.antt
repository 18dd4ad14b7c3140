-- A row that is written behind the last one and turned to its place.
use Rattle.std.proofs.Common.{◌≡◌, ℕ, zero, suc, ◌+◌, ◌-◌, ◌<◌, ◌≤◌, true, List, [], ◌∷◌, ◌++◌, length, take, drop, set, sym, refl, ap, ◌∙◌, ⊎_elim, arith}
use borrow.Rule.Slice.PartMut.{put_mid}
use Rattle.std.proofs.lemmas.List.{take_at, drop_at, length-append, length-take, length-take-le, length-drop, length-set, append_assoc, drop-append-le, take-append-le, take-take, take_more_set}
use Rattle.std.proofs.lemmas.Slice.{take-put_mid, between_is}
use Rattle.std.proofs.lemmas.Bool.{cases_Bool, cond-true, cond-false, cond_both}
use Rattle.passes.specs.Order.{before}
use Rattle.exact.specs.Rows.{row, pack, forms_of, added, place, all_lawful}
use Rattle.exact.specs.RowLaws.{pack_length}

-- the last bytes of a list turned to its front
turned : (D R : List ℕ) (k : ℕ) → length R ≡ k → drop (length (D ++ R) - k) (D ++ R) ++ take (length (D ++ R) - k) (D ++ R) ≡ R ++ D
turned D R k e =
    let l = length-append D R in
    let z : length (D ++ R) - k ≡ length D = omega arith in
    let a = drop_at D R (length D) refl in
    let b = take_at D R (length D) refl in
    rw z (rw (a, b))

module _ (T f part : List ℕ) (n at : ℕ) (a : at ≤ n) (fits : n + (1 + length f) ≤ length T) (same : part ≡ f) where
  -- the row behind those in use
  pub behind_last : take (n + 1 + length f) (put_mid (n + 1) (n + 1 + length f - (n + 1)) (set T n (length f)) part) ≡ take n T ++ row f
  behind_last =
      let s = ap length same in
      let l = length-set T n (length f) in
      take-put_mid (n + 1) (n + 1 + length f - (n + 1)) (set T n (length f)) part (n + 1 + length f) (omega arith) (omega arith)
      ∙ ap (λ (xs : List ℕ). take (n + 1) (set T n (length f)) ++ xs) same
      ∙ ap (λ (xs : List ℕ). xs ++ f) (take_more_set T n (length f) (omega arith))
      ∙ append_assoc (take n T) (length f ∷ []) f

  module _ (U ys : List ℕ) (front : take (n + 1 + length f) U ≡ take n T ++ row f) where
    pub turned_in : ys ≡ drop (length (take (n + 1 + length f - at) (drop at U)) - (1 + length f)) (take (n + 1 + length f - at) (drop at U)) ++ take (length (take (n + 1 + length f - at) (drop at U)) - (1 + length f)) (take (n + 1 + length f - at) (drop at U)) → take (n + (1 + length f)) (put_mid at (n + 1 + length f - at) U ys) ≡ take at (take n T) ++ (row f ++ drop at (take n T))
    turned_in e =
        let D = drop at (take n T) in
        let size : length (take n T) ≡ n = length-take-le n T (omega arith) in
        let cut = length-take (n + 1 + length f) U in
        let whole = ap length front ∙ length-append (take n T) (row f) in
        let long : n + 1 + length f ≤ length U = omega arith in
        let rest : length D ≡ length (take n T) - at = length-drop at (take n T) in
        let p : take (n + 1 + length f - at) (drop at U) ≡ D ++ row f = between_is U at (n + 1 + length f) ∙ ap (drop at) front ∙ drop-append-le at (take n T) (row f) (omega arith) in
        let y : ys ≡ row f ++ D = e ∙ ap (λ (xs : List ℕ). drop (length xs - (1 + length f)) xs ++ take (length xs - (1 + length f)) xs) p ∙ turned D (row f) (1 + length f) (omega arith) in
        let m = ap length y ∙ length-append (row f) D in
        let q : n + (1 + length f) ≡ at + length ys = omega arith in
        let t : take at U ≡ take at (take n T) = sym (take-take at (n + 1 + length f) U (omega arith)) ∙ ap (take at) front ∙ take-append-le at (take n T) (row f) (omega arith) in
        take-put_mid at (n + 1 + length f - at) U ys (n + (1 + length f)) q (omega arith)
        ∙ ap (λ (xs : List ℕ). xs ++ ys) t
        ∙ ap (λ (xs : List ℕ). take at (take n T) ++ xs) y

-- past the front of a list
take_past : (r t : List ℕ) (n p : ℕ) → n ≡ length r + p → take n (r ++ t) ≡ r ++ take p t
take_past [] t n p e = let z : n ≡ p = omega arith in ap (λ (m : ℕ). take m t) z
take_past (y ∷ r) t zero p e = absurd (omega arith)
take_past (y ∷ r) t (suc n) p e = ap (λ (xs : List ℕ). y ∷ xs) (take_past r t n p (omega arith))

drop_past : (r t : List ℕ) (n p : ℕ) → n ≡ length r + p → drop n (r ++ t) ≡ drop p t
drop_past [] t n p e = let z : n ≡ p = omega arith in ap (λ (m : ℕ). drop m t) z
drop_past (y ∷ r) t zero p e = absurd (omega arith)
drop_past (y ∷ r) t (suc n) p e = drop_past r t n p (omega arith)

-- a form added at its place, in bytes
pub pack_added : (x : List ℕ) (fs : List (List ℕ)) → pack (added x fs) ≡ take (place x fs) (pack fs) ++ (row x ++ drop (place x fs) (pack fs))
pack_added x [] = refl
pack_added x (f ∷ fs) =
    let p = place x fs in
    let n = suc (length f) + p in
    let there : (m : ℕ) → List ℕ = λ m. take m (pack (f ∷ fs)) ++ (row x ++ drop m (pack (f ∷ fs))) in
    ⊎_elim
    (λ e. ap pack (cond-true (before f x) (f ∷ added x fs) (x ∷ f ∷ fs) e)
    ∙ ap (λ (xs : List ℕ). row f ++ xs) (pack_added x fs)
    ∙ sym (append_assoc (row f) (take p (pack fs)) (row x ++ drop p (pack fs)))
    ∙ ap (λ (xs : List ℕ). xs ++ (row x ++ drop p (pack fs))) (sym (take_past (row f) (pack fs) n p refl))
    ∙ ap (λ (xs : List ℕ). take n (pack (f ∷ fs)) ++ (row x ++ xs)) (sym (drop_past (row f) (pack fs) n p refl))
    ∙ ap there (sym (cond-true (before f x) n 0 e)))
    (λ e. ap pack (cond-false (before f x) (f ∷ added x fs) (x ∷ f ∷ fs) e) ∙ ap there (sym (cond-false (before f x) n 0 e)))
    (cases_Bool (before f x))

pub place_within : (x : List ℕ) (fs : List (List ℕ)) → place x fs ≤ length (pack fs)
place_within x [] = omega arith
place_within x (f ∷ fs) =
    let h = place_within x fs in
    let l = length-append f (pack fs) in
    cond_both (before f x) (suc (length f) + place x fs) 0 (λ (n : ℕ). n ≤ length (pack (f ∷ fs))) (λ e. omega arith) (λ e. omega arith)

-- a list in memory
module _ (T : List ℕ) (n : ℕ) (long : n ≤ length T) (packed : pack (forms_of (take n T)) ≡ take n T) where
  size : length (take n T) ≡ n
  size = length-take-le n T long

  pub place_in : (x : List ℕ) → place x (forms_of (take n T)) ≤ n
  place_in x = let h = place_within x (forms_of (take n T)) in let l = ap length packed in let s = size in omega arith

  -- there is room for one more row
  pub roomy : (count : ℕ) → all_lawful (forms_of (take n T)) ≡ true → count ≡ length (forms_of (take n T)) → count < 64 → n + 24 ≤ 1536
  roomy count w e h = let k = pack_length (forms_of (take n T)) w in let l = ap length packed in let s = size in omega arith

  pub inserted : (x T' : List ℕ) (m at : ℕ) → at ≡ place x (forms_of (take n T)) → take m T' ≡ take at (take n T) ++ (row x ++ drop at (take n T)) → take m T' ≡ pack (added x (forms_of (take n T)))
  inserted x T' m at e h =
      let fs = forms_of (take n T) in
      h
      ∙ ap (λ (k : ℕ). take k (take n T) ++ (row x ++ drop k (take n T))) e
      ∙ ap (λ (xs : List ℕ). take (place x fs) xs ++ (row x ++ drop (place x fs) xs)) (sym packed)
      ∙ sym (pack_added x fs)
