-- The order of forms is strict and total, and the comparison of slices decides it.
use Rattle.std.proofs.Common.{◌≡◌, ℕ, ◌<◌, true, false, eqb, ltb, ◌⊎◌, List, [], ◌∷◌, Ordering, Less, Equal, Greater, sym, refl, ap, ◌∙◌, inl, inr, ⊎_elim, arith}
use Rattle.std.specs.Ordering.{MatchOrdering, nat_cmp, ordering_then}
use Rattle.std.proofs.lemmas.Bool.{cases_order, cases_eq, eq-eqb, ne_eqb, lt-ltb, ltb-true, cond-true, cond-false, true≢false, both_ways}
use Rattle.std.specs.Cmp.Lexicographic.{slice_cmp}
use Rattle.std.specs.Cmp.{ranks}
use Rattle.passes.specs.Order.{Before, shorter, lower, later, before, StrictOrder}

onward : {x y z : List ℕ} → Before x y → Before y z → Before x z
onward shorter (lower k) = shorter
onward shorter (later k) = shorter
onward (lower h) (lower k) = lower (omega arith)
onward (lower h) (later k) = lower h
onward (later h) (lower k) = lower k
onward (later h) (later k) = later (onward h k)

total : (x y : List ℕ) → (x ≡ y) ⊎ (Before x y ⊎ Before y x)
total [] [] = inl refl
total [] (b ∷ y) = inr (inl shorter)
total (a ∷ x) [] = inr (inr shorter)
total (a ∷ x) (b ∷ y) =
    ⊎_elim
    (λ (e : a ≡ b). rw e (⊎_elim (λ h. inl (ap (λ (t : List ℕ). b ∷ t) h)) (⊎_elim (λ h. inr (inl (later h))) (λ h. inr (inr (later h)))) (total x y)))
    (⊎_elim (λ h. inr (inl (lower h))) (λ h. inr (inr (lower h))))
    (cases_order a b)

to_test : {x y : List ℕ} → Before x y → before x y ≡ true
to_test shorter = refl
to_test (lower {x} {y} {xs} {ys} h) = cond-false (eqb x y) (before xs ys) (ltb x y) (ne_eqb x y (λ e. omega arith)) ∙ lt-ltb x y h
to_test (later {x} {xs} {ys} h) = cond-true (eqb x x) (before xs ys) (ltb x x) (eq-eqb x x refl) ∙ to_test h

from_test : (x y : List ℕ) → before x y ≡ true → Before x y
from_test [] [] e = absurd (true≢false (sym e))
from_test [] (b ∷ y) e = shorter
from_test (a ∷ x) [] e = absurd (true≢false (sym e))
from_test (a ∷ x) (b ∷ y) e =
    ⊎_elim
    (λ (h : a ≡ b). let t = sym (cond-true (eqb a b) (before x y) (ltb a b) (eq-eqb a b h)) ∙ e in rw h (later (from_test x y t)))
    (λ (h : a ≡ b → ⊥). lower (ltb-true a b (sym (cond-false (eqb a b) (before x y) (ltb a b) (ne_eqb a b h)) ∙ e)))
    (cases_eq a b)

not_itself : (x : List ℕ) → before x x ≡ false
not_itself [] = refl
not_itself (a ∷ x) = cond-true (eqb a a) (before x x) (ltb a a) (eq-eqb a a refl) ∙ not_itself x

pub strict_order : StrictOrder
strict_order = record { never_itself = λ x b. both_ways (before x x) (not_itself x) (to_test b); onward = λ x y z. onward; total = total; tested = λ x y. (from_test x y, to_test) }

same_first : (b : ℕ) (x y : List ℕ) (r : Ordering) → MatchOrdering r (Before x y) (x ≡ y) (Before y x) → MatchOrdering r (Before (b ∷ x) (b ∷ y)) (b ∷ x ≡ b ∷ y) (Before (b ∷ y) (b ∷ x))
same_first b x y Less h = later h
same_first b x y Equal h = ap (λ (t : List ℕ). b ∷ t) h
same_first b x y Greater h = later h

step : (a b : ℕ) (x y : List ℕ) (t r : Ordering) → MatchOrdering t (a < b) (a ≡ b) (b < a) → MatchOrdering r (Before x y) (x ≡ y) (Before y x) → MatchOrdering (ordering_then t r) (Before (a ∷ x) (b ∷ y)) (a ∷ x ≡ b ∷ y) (Before (b ∷ y) (a ∷ x))
step a b x y Less r h k = lower h
step a b x y Equal r h k = rw h (same_first b x y r k)
step a b x y Greater r h k = lower h

-- what the comparison of slices answers
pub ranked : (x y : List ℕ) → MatchOrdering (slice_cmp nat_cmp x y) (Before x y) (x ≡ y) (Before y x)
ranked [] [] = refl
ranked [] (b ∷ y) = shorter
ranked (a ∷ x) [] = shorter
ranked (a ∷ x) (b ∷ y) = step a b x y (nat_cmp a b) (slice_cmp nat_cmp x y) (ranks a b) (ranked x y)
