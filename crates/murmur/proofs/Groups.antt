-- One turn of the hash's loop, its last bytes, and the law of whole groups.
use Prim.Native.Nat.{ℕ, zero, suc, ◌+◌, ◌*◌, ◌/◌, ◌<◌, ◌≤◌}
use mathlib.Core.Path.{◌≡◌, refl, sym, ap, ◌∙◌}
use mathlib.Core.List.{List, [], ◌∷◌}
use lib.ListN.{length, take, drop, get_or, length-drop}
use Rattle.std.specs.Simd.{first_chunks}
use Rattle.std.proofs.lemmas.List.{get_or-take, drop-drop}
use lib.Bits.{bit_xor}
use native.Mathlib.Omega.{arith}
use Rattle.murmur.specs.Hash.{absorbed, folded, low_first, mixed, ByGroups}

pub absorbed_more : (h : ℕ) (xs : List ℕ) → 4 ≤ length xs → absorbed h xs ≡ absorbed (folded h (low_first (get_or xs 0 0) (get_or xs 1 0) (get_or xs 2 0) (get_or xs 3 0))) (drop 4 xs)
unfolding absorbed
absorbed_more h [] l = absurd (omega arith)
absorbed_more h (a ∷ []) l = absurd (omega arith)
absorbed_more h (a ∷ b ∷ []) l = absurd (omega arith)
absorbed_more h (a ∷ b ∷ c ∷ []) l = absurd (omega arith)
absorbed_more h (a ∷ b ∷ c ∷ d ∷ rest) l = refl

-- the group that a loop is at
pub group_at : (n i : ℕ) (xs d : List ℕ) → i < n → get_or (first_chunks 4 n xs) i d ≡ take 4 (drop (i * 4) xs)
group_at zero i xs d l = absurd (omega arith)
group_at (suc n) zero xs d l = refl
group_at (suc n) (suc i) xs d l =
    let e : 4 + i * 4 ≡ suc i * 4 = omega arith in
    group_at n i (drop 4 xs) d (omega arith) ∙ ap (take 4) (drop-drop (i * 4) 4 xs ∙ ap (λ (k : ℕ). drop k xs) e)

module _ (xs g : List ℕ) (i : ℕ) (there : i * 4 + 4 ≤ length xs) (is : g ≡ take 4 (drop (i * 4) xs)) where
  byte_of : (j : ℕ) → j < 4 → get_or g j 0 ≡ get_or (drop (i * 4) xs) j 0
  byte_of j l = ap (λ (t : List ℕ). get_or t j 0) is ∙ get_or-take 4 (drop (i * 4) xs) j 0 l

  -- it enters the state, and what is left begins behind it
  pub group_in : (h k : ℕ) → k ≡ low_first (get_or g 0 0) (get_or g 1 0) (get_or g 2 0) (get_or g 3 0) → absorbed h (drop (i * 4) xs) ≡ absorbed (folded h k) (drop ((i + 1) * 4) xs)
  group_in h k e =
      let m = absorbed_more h (drop (i * 4) xs) (let z = length-drop (i * 4) xs in omega arith) in
      let b0 = byte_of 0 (omega arith) in
      let b1 = byte_of 1 (omega arith) in
      let b2 = byte_of 2 (omega arith) in
      let b3 = byte_of 3 (omega arith) in
      let d : drop 4 (drop (i * 4) xs) ≡ drop ((i + 1) * 4) xs = drop-drop 4 (i * 4) xs ∙ ap (λ (k : ℕ). drop k xs) (omega arith) in
      cc

-- behind the last group
pub rest_left : (xs rest : List ℕ) (i h a : ℕ) → a ≡ absorbed h (drop (i * 4) xs) → i ≡ length xs / 4 → rest ≡ drop (length xs / 4 * 4) xs → absorbed h rest ≡ a
rest_left xs rest i h a e n r = let d : drop (i * 4) xs ≡ rest = rw (n, r) in ap (absorbed h) (sym d) ∙ sym e

pub absorbed_0 : (h : ℕ) (xs : List ℕ) → length xs ≡ 0 → absorbed h xs ≡ h
unfolding absorbed
absorbed_0 h [] l = refl
absorbed_0 h (a ∷ xs) l = absurd (omega arith)

pub absorbed_1 : (h : ℕ) (xs : List ℕ) → length xs ≡ 1 → absorbed h xs ≡ bit_xor h (mixed (low_first (get_or xs 0 0) 0 0 0))
unfolding absorbed
absorbed_1 h [] l = absurd (omega arith)
absorbed_1 h (a ∷ []) l = refl
absorbed_1 h (a ∷ b ∷ xs) l = absurd (omega arith)

pub absorbed_2 : (h : ℕ) (xs : List ℕ) → length xs ≡ 2 → absorbed h xs ≡ bit_xor h (mixed (low_first (get_or xs 0 0) (get_or xs 1 0) 0 0))
unfolding absorbed
absorbed_2 h [] l = absurd (omega arith)
absorbed_2 h (a ∷ []) l = absurd (omega arith)
absorbed_2 h (a ∷ b ∷ []) l = refl
absorbed_2 h (a ∷ b ∷ c ∷ xs) l = absurd (omega arith)

pub absorbed_3 : (h : ℕ) (xs : List ℕ) → length xs ≡ 3 → absorbed h xs ≡ bit_xor h (mixed (low_first (get_or xs 0 0) (get_or xs 1 0) (get_or xs 2 0) 0))
unfolding absorbed
absorbed_3 h [] l = absurd (omega arith)
absorbed_3 h (a ∷ []) l = absurd (omega arith)
absorbed_3 h (a ∷ b ∷ []) l = absurd (omega arith)
absorbed_3 h (a ∷ b ∷ c ∷ []) l = refl
absorbed_3 h (a ∷ b ∷ c ∷ d ∷ xs) l = absurd (omega arith)

pub by_groups : ByGroups
unfolding absorbed
by_groups h [] rest = refl
by_groups h (g ∷ gs) rest = by_groups (folded h (low_first g.b0 g.b1 g.b2 g.b3)) gs rest
