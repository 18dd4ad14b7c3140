-- Powers of two: the numbers of which one binary digit is set.
use Rattle.std.specs.Prelude.{◌≡◌, ℕ, zero, suc, ◌+◌, ◌/◌, ◌%◌, ◌^◌, ◌<◌, ◌≤◌, Bool, Decides, ◌==◌, refl}
use Rattle.std.proofs.Common.{ap, ◌∙◌, ⊎_elim, pow-suc, arith}
use Rattle.std.specs.Int.Count.{ones, ones_step}
use Rattle.std.proofs.lemmas.Bool.{cases_lt, eqb-true, eq-eqb}

abbrev pub power_of_two : ℕ → Bool
power_of_two n = ones n == 1

-- what the test means
abbrev pub Powers : Type 0
Powers = (n : ℕ) → Decides (power_of_two n) ((k : ℕ) × (n ≡ 2 ^ k))

zero_ones : ones 0 ≡ 0
unfolding ones
zero_ones = refl

none : (d n : ℕ) → n ≤ d → ones n ≡ 0 → n ≡ 0
none zero n l e = omega arith
none (suc d) n l e =
    let s = ones_step n in
    let z : n / 2 ≡ 0 = ⊎_elim (λ (p : n < 1). omega arith) (λ (p : 1 ≤ n). none d (n / 2) (omega arith) (omega arith)) (cases_lt n 1) in
    omega arith

one : (d n : ℕ) → n ≤ d → ones n ≡ 1 → (k : ℕ) × (n ≡ 2 ^ k)
one zero n l e =
    let z : n ≡ 0 = omega arith in
    let s : ones n ≡ 0 = ap ones z ∙ zero_ones in
    absurd (omega arith)
one (suc d) n l e =
    let s = ones_step n in
    ⊎_elim
    (λ (p : n % 2 < 1).
    let h : ones (n / 2) ≡ 1 = omega arith in
    let pos : 1 ≤ n = ⊎_elim (λ (q : n < 1). let z : n ≡ 0 = omega arith in let t : ones n ≡ 0 = ap ones z ∙ zero_ones in absurd (omega arith)) (λ q. q) (cases_lt n 1) in
    let r = one d (n / 2) (omega arith) h in
    let w = pow-suc 2 r.0 in
    (suc r.0, omega (arith, r.1)))
    (λ (p : 1 ≤ n % 2).
    let h : ones (n / 2) ≡ 0 = omega arith in
    let z = none n (n / 2) (omega arith) h in
    (0, omega arith))
    (cases_lt (n % 2) 1)

power_ones : (k : ℕ) → ones (2 ^ k) ≡ 1
power_ones zero = ones_step 1 ∙ ap (λ (m : ℕ). 1 + m) zero_ones
power_ones (suc k) =
    let w = pow-suc 2 k in
    let h : 2 ^ suc k / 2 ≡ 2 ^ k = omega arith in
    let e : 2 ^ suc k % 2 ≡ 0 = omega arith in
    let s = ones_step (2 ^ suc k) in
    let r = power_ones k in
    let t : ones (2 ^ suc k / 2) ≡ ones (2 ^ k) = ap ones h in
    omega arith

pub powers : Powers
powers n = (λ t. one n n (omega arith) (eqb-true (ones n) 1 t), λ p. eq-eqb (ones n) 1 (ap ones p.1 ∙ power_ones p.0))
