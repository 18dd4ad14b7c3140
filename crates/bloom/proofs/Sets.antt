-- Setting positions sets those bits and no other.
use Rattle.std.proofs.Common.{◌≡◌, ℕ, zero, suc, ◌+◌, ◌-◌, ◌*◌, ◌/◌, ◌%◌, ◌^◌, ◌<◌, eqb, List, length, get_or, sym, refl, ap, ◌∙◌, inl, inr, ⊎_elim, arith, get_or-set_other, get_or-set_same}
use lib.Bits.{bit_or, or_zero_r}
use native.Mathlib.Nat.{div-eq_of_lt}
use Rattle.std.proofs.lemmas.Nat.{or_shr, or_mod, pow-add, pow_below, shl-shr}
use Rattle.std.proofs.lemmas.Bool.{cases_eq, cases_order}
use Rattle.bloom.specs.Bits.{bit, with_bit, position, with_all, SetsThese}
use Rattle.bloom.specs.Rules.{bit_set_same, within}

-- the digit i of a power of two
other_digit : (i j : ℕ) → (i ≡ j → ⊥) → 2 ^ j / 2 ^ i % 2 ≡ 0
other_digit i j h =
    ⊎_elim
    (λ (e : i ≡ j). absurd (h e))
    (⊎_elim
    (λ (l : i < j).
    let d = j - i - 1 in
    let s : j ≡ (1 + d) + i = omega arith in
    let p = pow-add 2 (1 + d) i in
    let q = pow-add 2 1 d in
    let r = shl-shr (2 ^ (1 + d)) i in
    rw s (rw (p, r, q) (omega arith)))
    (λ (l : j < i). let b = pow_below j i l in rw (div-eq_of_lt b)))
    (cases_order i j)

other_bit : (t : List ℕ) (n m : ℕ) → n / 8 < length t → (m ≡ n → ⊥) → bit (with_bit t n) m ≡ bit t m
unfolding bit with_bit
other_bit t n m l h =
    ⊎_elim
    (λ (z : m / 8 ≡ n / 8).
    let a = get_or t (n / 8) 0 in
    let d : m % 8 ≡ n % 8 → ⊥ = λ (e : m % 8 ≡ n % 8). h (let q : m ≡ n = omega arith in q) in
    let o = other_digit (m % 8) (n % 8) d in
    let digit : bit_or a (2 ^ (n % 8)) / 2 ^ (m % 8) % 2 ≡ a / 2 ^ (m % 8) % 2 =
    ap (λ (k : ℕ). k % 2) (or_shr a (2 ^ (n % 8)) (m % 8))
    ∙ or_mod (a / 2 ^ (m % 8)) (2 ^ (n % 8) / 2 ^ (m % 8)) 1
    ∙ ap (bit_or (a / 2 ^ (m % 8) % 2)) o ∙ or_zero_r (a / 2 ^ (m % 8) % 2)
    in
    rw z (rw get_or-set_same (ap (λ (k : ℕ). eqb k 1) digit)))
    (λ (z : m / 8 ≡ n / 8 → ⊥). rw get_or-set_other)
    (cases_eq (m / 8) (n / 8))

-- a position that is not the last one is among those before it
before_last : (h1 h2 N k n i : ℕ) → i < suc k → (n ≡ position h1 h2 N k → ⊥) → n ≡ position h1 h2 N i → i < k
before_last h1 h2 N k n i l apart at =
    ⊎_elim
    (λ (e : i ≡ k). absurd (apart (at ∙ ap (position h1 h2 N) e)))
    (λ (e : i ≡ k → ⊥). omega arith)
    (cases_eq i k)

pub sets_these : SetsThese
sets_these h1 h2 zero n table l = (λ e. inl e, ⊎_elim (λ e. e) (λ p. absurd (let q = p.1 in let b : ⊥ = omega arith in b)))
sets_these h1 h2 (suc k) n table l =
    let N = 8 * length table in
    let t = with_all h1 h2 N k table in
    let p = position h1 h2 N k in
    let w : p / 8 < length t = within h1 h2 N table (omega arith) refl k k in
    let ih = sets_these h1 h2 k n table l in
    ⊎_elim
    (λ (e : n ≡ p). (λ _. inr (k, omega arith, e), λ _. rw e (bit_set_same t p w)))
    (λ (e : n ≡ p → ⊥).
    let o = other_bit t p n w e in (
      λ b. ⊎_elim (λ a. inl a) (λ q. inr (q.0, omega (arith, q.1), q.2)) (ih.0 (sym o ∙ b)),
      λ c. o ∙ ih.1 (⊎_elim (λ a. inl a) (λ q. inr (q.0, before_last h1 h2 N k n q.0 q.1 e q.2, q.2)) c),
    ))
    (cases_eq n p)
