-- The steps of a walk over rows.
use Rattle.std.proofs.Common.{◌≡◌, ℕ, zero, suc, ◌+◌, ◌-◌, ◌<◌, ◌≤◌, min, true, false, cond, ◌&&◌, List, [], ◌∷◌, length, get_or, take, drop, map, sum, sym, refl, ap, ◌∙◌, ⊎_elim, arith}
use Rattle.std.proofs.lemmas.List.{take_all, drop_all, drop-drop, take_rest, length-drop, length-take}
use Rattle.std.proofs.lemmas.List.Sums.{sum_by-cons, sum-map}
use Rattle.std.proofs.lemmas.Bool.{cases_lt, cases_Bool, cond_both, cond-true, cond-false, and_left, and_right, and_from}
use Rattle.std.specs.List.{prefix_len, sum_by}
use Rattle.passes.specs.Order.{before}
use Rattle.passes.specs.Lawful.{lawful}
use Rattle.filters.specs.Kind.{fine, misvalued, unsorted}
use Rattle.exact.specs.Rows.{first_form, behind_first, first_forms, forms_of, place, whole, judge_from}
use Rattle.exact.specs.RowLaws.{forms_step}

-- the first row of a slice, its end held within the slice
pub split_form : (xs : List ℕ) (k e : ℕ) → e ≡ min (1 + k) (length xs) → take (e - 1) (drop 1 xs) ≡ take k (drop 1 xs)
split_form xs k e h =
    let l = length-drop 1 xs in
    ⊎_elim
    (λ (b : k < length xs). let z : e - 1 ≡ k = omega arith in ap (λ (n : ℕ). take n (drop 1 xs)) z)
    (λ (b : length xs ≤ k). take_all (e - 1) (drop 1 xs) (omega arith) ∙ sym (take_all k (drop 1 xs) (omega arith)))
    (cases_lt k (length xs))

pub split_rest : (xs : List ℕ) (k e : ℕ) → e ≡ min (1 + k) (length xs) → take (length xs - e) (drop e xs) ≡ drop k (drop 1 xs)
split_rest xs k e h =
    ⊎_elim
    (λ (b : k < length xs). let z : e ≡ 1 + k = omega arith in take_rest xs e ∙ ap (λ (n : ℕ). drop n xs) z ∙ sym (drop-drop k 1 xs))
    (λ (b : length xs ≤ k). take_rest xs e ∙ drop_all e xs (omega arith) ∙ sym (drop-drop k 1 xs ∙ drop_all (1 + k) xs (omega arith)))
    (cases_lt k (length xs))

pub forms_first : (rows : List ℕ) → 1 ≤ length rows → forms_of rows ≡ first_form rows ∷ forms_of (behind_first rows)
forms_first [] l = absurd (omega arith)
forms_first (k ∷ rest) l = forms_step k rest

pub forms_split : (rows form rest : List ℕ) → 1 ≤ length rows → form ≡ first_form rows → rest ≡ behind_first rows → forms_of rows ≡ form ∷ forms_of rest
forms_split rows form rest l e d = rw (e, d) (forms_first rows l)

full_at : (last rows : List ℕ) → 1 ≤ length rows → judge_from zero last rows ≡ misvalued
unfolding judge_from
full_at last [] l = absurd (omega arith)
full_at last (k ∷ rest) l = refl

broken_at : (room : ℕ) (last rows : List ℕ) → 1 ≤ length rows → (whole (get_or rows 0 0) (drop 1 rows) && lawful (first_form rows)) ≡ false → judge_from (suc room) last rows ≡ misvalued
unfolding judge_from
broken_at room last [] l e = absurd (omega arith)
broken_at room last (k ∷ rest) l e = cond-false (whole k rest && lawful (take k rest)) _ misvalued e

ordered_at : (room : ℕ) (last rows : List ℕ) → 1 ≤ length rows → (whole (get_or rows 0 0) (drop 1 rows) && lawful (first_form rows)) ≡ true → judge_from (suc room) last rows ≡ cond (before last (first_form rows)) (judge_from room (first_form rows) (behind_first rows)) unsorted
unfolding judge_from
ordered_at room last [] l e = absurd (omega arith)
ordered_at room last (k ∷ rest) l e = cond-true (whole k rest && lawful (take k rest)) _ misvalued e

-- the first row, judged
module _ (last rows : List ℕ) (l : 1 ≤ length rows) where
  pub judge_full : (room : ℕ) → room ≡ 0 → judge_from room last rows ≡ misvalued
  judge_full room e = ap (λ (n : ℕ). judge_from n last rows) e ∙ full_at last rows l

  pub judge_broken : (room : ℕ) → whole (get_or rows 0 0) (drop 1 rows) ≡ false → judge_from room last rows ≡ misvalued
  judge_broken zero e = full_at last rows l
  judge_broken (suc room) e = broken_at room last rows l (and_left (whole (get_or rows 0 0) (drop 1 rows)) (lawful (first_form rows)) e)

  pub judge_unlawful : (room : ℕ) → lawful (first_form rows) ≡ false → judge_from room last rows ≡ misvalued
  judge_unlawful zero e = full_at last rows l
  judge_unlawful (suc room) e = broken_at room last rows l (and_right (whole (get_or rows 0 0) (drop 1 rows)) (lawful (first_form rows)) e)

  module _ (w : whole (get_or rows 0 0) (drop 1 rows) ≡ true) (f : lawful (first_form rows) ≡ true) where
    fits : (whole (get_or rows 0 0) (drop 1 rows) && lawful (first_form rows)) ≡ true
    fits = and_from (whole (get_or rows 0 0) (drop 1 rows)) (lawful (first_form rows)) w f

    pub judge_unsorted : (room : ℕ) → (room ≡ 0 → ⊥) → before last (first_form rows) ≡ false → judge_from room last rows ≡ unsorted
    judge_unsorted zero n e = absurd (n refl)
    judge_unsorted (suc room) n e = ordered_at room last rows l fits ∙ cond-false (before last (first_form rows)) _ unsorted e

    pub judge_further : (room : ℕ) → (room ≡ 0 → ⊥) → before last (first_form rows) ≡ true → judge_from (room - 1) (first_form rows) (behind_first rows) ≡ judge_from room last rows
    judge_further zero n e = absurd (n refl)
    judge_further (suc room) n e =
        let z : suc room - 1 ≡ room = omega arith in
        ap (λ (m : ℕ). judge_from m (first_form rows) (behind_first rows)) z ∙ sym (ordered_at room last rows l fits ∙ cond-true (before last (first_form rows)) _ unsorted e)

pub judge_end : (room : ℕ) (last : List ℕ) → judge_from room last [] ≡ fine
unfolding judge_from
judge_end zero last = refl
judge_end (suc room) last = refl

few : (n : ℕ) (rows : List ℕ) → length rows ≤ n → length (first_forms n rows) ≤ n
few zero rows l = omega arith
few (suc n) [] l = omega arith
few (suc n) (k ∷ rest) l = let h = few n (drop k rest) (let d = length-drop k rest in omega arith) in omega arith

-- no more forms than bytes
pub forms_few : (rows : List ℕ) → length (forms_of rows) ≤ length rows
forms_few rows = few (length rows) rows (omega arith)

by_before : (x : List ℕ) (fs : List (List ℕ)) → sum_by (λ f. 1 + length f) (take (prefix_len (λ f. before f x) fs) fs) ≡ place x fs
by_before x [] = refl
by_before x (f ∷ fs) =
    ⊎_elim
    (λ (e : before f x ≡ true).
    let n = prefix_len (λ f. before f x) fs in
    let z : 1 + n ≡ suc n = omega arith in
    let c = sum_by-cons (λ f. 1 + length f) f (take n fs) in
    let h = by_before x fs in
    let p : sum_by (λ f. 1 + length f) (f ∷ take n fs) ≡ suc (length f) + place x fs = omega arith in
    rw (e, z) p)
    (λ (e : before f x ≡ false). rw e refl)
    (cases_Bool (before f x))

-- the bytes of the rows in front of a place, added up
pub sum_before : (x : List ℕ) (fs : List (List ℕ)) → sum (map (λ f. 1 + length f) (take (prefix_len (λ f. before f x) fs) fs)) ≡ place x fs
sum_before x fs = sum-map (λ f. 1 + length f) (take (prefix_len (λ f. before f x) fs) fs) ∙ by_before x fs

place_low : (n : ℕ) (x rows : List ℕ) → length rows ≤ n → place x (first_forms n rows) ≤ length rows
place_low zero x rows l = omega arith
place_low (suc n) x [] l = omega arith
place_low (suc n) x (k ∷ rest) l =
    let d = length-drop k rest in
    let t = length-take k rest in
    let h = place_low n x (drop k rest) (omega arith) in
    cond_both (before (take k rest) x) (suc (length (take k rest)) + place x (first_forms n (drop k rest))) 0 (λ (m : ℕ). m ≤ suc (length rest)) (λ e. omega arith) (λ e. omega arith)

pub place_rows : (x rows : List ℕ) → place x (forms_of rows) ≤ length rows
place_rows x rows = place_low (length rows) x rows (omega arith)
