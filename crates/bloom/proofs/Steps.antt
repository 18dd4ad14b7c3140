-- One turn of the loop that sets positions, and what a run over positions tells.
use Rattle.std.proofs.Common.{◌≡◌, ℕ, zero, suc, ◌+◌, ◌*◌, ◌/◌, ◌%◌, ◌^◌, ◌&&◌, List, get_or, set, eqb, sym, ap, ◌∙◌, add-zero, add-one, arith}
use lib.Bits.{bit_or, bit_and}
use Rattle.std.specs.List.{list_all, range_with_len}
use Rattle.std.proofs.Math.Bool.{and_assoc, and-true}
use Rattle.std.proofs.lemmas.Nat.{one_shl, and_mask}
use Rattle.bloom.specs.Bits.{bit, with_bit, position, with_all, has_all}

module _ (a b N i : ℕ) where
  pub set_step : (t table : List ℕ) → t ≡ with_all a b N i table → set t (position a b N i / 8) (bit_or (get_or t (position a b N i / 8) 0) ((1 * 2 ^ (position a b N i % 8)) % 256)) ≡ with_all a b N (i + 1) table
  unfolding with_bit
  set_step t table e =
      let n = position a b N i in
      let o = one_shl (n % 8) 8 (omega arith) in
      rw (add-one i, o, e)

-- the lowest digit of a byte moved down
pub bit_test : (t : List ℕ) (n : ℕ) → eqb (bit_and (get_or t (n / 8) 0 / 2 ^ (n % 8)) 1) 1 ≡ bit t n
unfolding bit
bit_test t n = ap (λ (m : ℕ). eqb m 1) (and_mask (get_or t (n / 8) 0 / 2 ^ (n % 8)) 1)

-- the positions from n on, and those before
module _ (a b N : ℕ) (t : List ℕ) where
  from : (n m : ℕ) → has_all a b N (n + m) t ≡ (has_all a b N n t && list_all (λ i. bit t (position a b N i)) (range_with_len n m))
  from n zero = rw add-zero (sym (and-true (has_all a b N n t)))
  from n (suc m) =
      let z : n + suc m ≡ n + 1 + m = omega arith in
      rw z (from (n + 1) m ∙ ap (λ (k : ℕ). has_all a b N k t && list_all (λ i. bit t (position a b N i)) (range_with_len (n + 1) m)) (add-one n) ∙ and_assoc (has_all a b N n t) _ _)

  pub all_told : (k : ℕ) → list_all (λ i. bit t (position a b N i)) (range_with_len 0 k) ≡ has_all a b N k t
  all_told k = let z : 0 + k ≡ k = omega arith in sym (ap (λ (n : ℕ). has_all a b N n t) (sym z) ∙ from 0 k)
