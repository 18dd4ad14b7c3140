-- What adding a form at its place does to a list of forms.
use Rattle.std.specs.Prelude.{◌≡◌, ℕ, suc, true, false, List, [], ◌∷◌, length, ◌≢◌, refl}
use Rattle.std.proofs.Common.{sym, ap, ◌∙◌, ⊎_elim}
use Rattle.std.specs.Str.{bytes_eq}
use Rattle.std.proofs.lemmas.Bool.{and_parts, and_from, cases_Bool, cond-true, cond-false, or_cases, or_parts, or_left, or_right}
use Rattle.passes.specs.Lawful.{lawful}
use Rattle.passes.specs.Order.{before}
use Rattle.exact.specs.Rows.{stands, added, all_lawful, above}
use Rattle.exact.specs.RowLaws.{same_itself, turned}

-- by whether the first form stands before the new one
module _ (x f : List ℕ) (fs : List (List ℕ)) where
  further : before f x ≡ true → added x (f ∷ fs) ≡ f ∷ added x fs
  further e = cond-true (before f x) (f ∷ added x fs) (x ∷ f ∷ fs) e

  here : before f x ≡ false → added x (f ∷ fs) ≡ x ∷ f ∷ fs
  here e = cond-false (before f x) (f ∷ added x fs) (x ∷ f ∷ fs) e

pub added_length : (x : List ℕ) (fs : List (List ℕ)) → length (added x fs) ≡ suc (length fs)
added_length x [] = refl
added_length x (f ∷ fs) =
    ⊎_elim (λ e. ap length (further x f fs e) ∙ ap suc (added_length x fs)) (λ e. ap length (here x f fs e)) (cases_Bool (before f x))

pub added_lawful : (x : List ℕ) (fs : List (List ℕ)) → lawful x ≡ true → all_lawful fs ≡ true → all_lawful (added x fs) ≡ true
added_lawful x [] w s = and_from (lawful x) true w refl
added_lawful x (f ∷ fs) w s =
    let p = and_parts (lawful f) (all_lawful fs) s in
    ⊎_elim
    (λ e. ap all_lawful (further x f fs e) ∙ and_from (lawful f) (all_lawful (added x fs)) p.0 (added_lawful x fs w p.1))
    (λ e. ap all_lawful (here x f fs e) ∙ and_from (lawful x) (all_lawful (f ∷ fs)) w s)
    (cases_Bool (before f x))

pub added_rising : (last x : List ℕ) (fs : List (List ℕ)) → before last x ≡ true → above last fs ≡ true → stands x fs ≡ false → above last (added x fs) ≡ true
added_rising last x [] b r n = and_from (before last x) true b refl
added_rising last x (f ∷ fs) b r n =
    let p = and_parts (before last f) (above f fs) r in
    let q = or_parts (bytes_eq f x) (stands x fs) n in
    ⊎_elim
    (λ e. ap (above last) (further x f fs e) ∙ and_from (before last f) (above f (added x fs)) p.0 (added_rising f x fs e p.1 q.1))
    (λ e. ap (above last) (here x f fs e) ∙ and_from (before last x) (above x (f ∷ fs)) b (and_from (before x f) (above f fs) (turned f x e q.0) p.1))
    (cases_Bool (before f x))

pub added_stands : (x : List ℕ) (fs : List (List ℕ)) → stands x (added x fs) ≡ true
added_stands x [] = or_left (bytes_eq x x) false (same_itself x)
added_stands x (f ∷ fs) =
    ⊎_elim
    (λ e. ap (stands x) (further x f fs e) ∙ or_right (bytes_eq f x) (stands x (added x fs)) (added_stands x fs))
    (λ e. ap (stands x) (here x f fs e) ∙ or_left (bytes_eq x x) (stands x (f ∷ fs)) (same_itself x))
    (cases_Bool (before f x))

pub added_keeps : (x y : List ℕ) (fs : List (List ℕ)) → stands y fs ≡ true → stands y (added x fs) ≡ true
added_keeps x y [] h = or_right (bytes_eq x y) false h
added_keeps x y (f ∷ fs) h =
    ⊎_elim
    (λ e. ap (stands y) (further x f fs e)
    ∙ ⊎_elim (λ s. or_left (bytes_eq f y) (stands y (added x fs)) s) (λ s. or_right (bytes_eq f y) (stands y (added x fs)) (added_keeps x y fs s)) (or_cases (bytes_eq f y) (stands y fs) h))
    (λ e. ap (stands y) (here x f fs e) ∙ or_right (bytes_eq x y) (stands y (f ∷ fs)) h)
    (cases_Bool (before f x))

pub added_only : (x y : List ℕ) (fs : List (List ℕ)) → (bytes_eq x y ≢ true) → stands y (added x fs) ≡ true → stands y fs ≡ true
added_only x y [] n h = ⊎_elim (λ s. absurd (n s)) (λ s. s) (or_cases (bytes_eq x y) false h)
added_only x y (f ∷ fs) n h =
    ⊎_elim
    (λ e. ⊎_elim
    (λ s. or_left (bytes_eq f y) (stands y fs) s)
    (λ s. or_right (bytes_eq f y) (stands y fs) (added_only x y fs n s))
    (or_cases (bytes_eq f y) (stands y (added x fs)) (sym (ap (stands y) (further x f fs e)) ∙ h)))
    (λ e. ⊎_elim (λ s. absurd (n s)) (λ s. s) (or_cases (bytes_eq x y) (stands y (f ∷ fs)) (sym (ap (stands y) (here x f fs e)) ∙ h)))
    (cases_Bool (before f x))
