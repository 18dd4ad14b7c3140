-- Lists of bytes stay lists of bytes.
use Rattle.std.specs.Prelude.{◌≡◌, ℕ, zero, suc, ◌<◌, true, List, [], ◌∷◌, ◌++◌, take, drop, replicate, nat_lt, slice_index, slice_set, refl}
use Rattle.std.proofs.Common.{arith}
use Rattle.std.proofs.lemmas.Bool.{and_parts, and_from, lt-ltb, ltb-true}
use Rattle.passes.specs.Bytes.{bytes}

pub bytes_at : (t : List ℕ) (i : ℕ) → bytes t ≡ true → slice_index t i < 256
bytes_at [] i h = omega arith
bytes_at (x ∷ t) zero h = ltb-true x 256 (and_parts (nat_lt x 256) (bytes t) h).0
bytes_at (x ∷ t) (suc i) h = bytes_at t i (and_parts (nat_lt x 256) (bytes t) h).1

pub bytes_from : (xs : List ℕ) → ((i : ℕ) → slice_index xs i < 256) → bytes xs ≡ true
bytes_from [] h = refl
bytes_from (x ∷ xs) h = and_from _ _ (lt-ltb x 256 (h 0)) (bytes_from xs (λ i. h (suc i)))

pub bytes_set : (t : List ℕ) (i b : ℕ) → bytes t ≡ true → b < 256 → bytes (slice_set t i b) ≡ true
bytes_set [] i b h l = refl
bytes_set (x ∷ t) zero b h l = and_from (nat_lt b 256) (bytes t) (lt-ltb b 256 l) (and_parts (nat_lt x 256) (bytes t) h).1
bytes_set (x ∷ t) (suc i) b h l = let p = and_parts (nat_lt x 256) (bytes t) h in and_from (nat_lt x 256) (bytes (slice_set t i b)) p.0 (bytes_set t i b p.1 l)

pub bytes_zeros : (n : ℕ) → bytes (replicate n 0) ≡ true
bytes_zeros zero = refl
bytes_zeros (suc n) = bytes_zeros n

pub bytes_take : (n : ℕ) (t : List ℕ) → bytes t ≡ true → bytes (take n t) ≡ true
bytes_take zero t h = refl
bytes_take (suc n) [] h = refl
bytes_take (suc n) (x ∷ t) h = let p = and_parts (nat_lt x 256) (bytes t) h in and_from (nat_lt x 256) (bytes (take n t)) p.0 (bytes_take n t p.1)

pub bytes_drop : (n : ℕ) (t : List ℕ) → bytes t ≡ true → bytes (drop n t) ≡ true
bytes_drop zero t h = h
bytes_drop (suc n) [] h = refl
bytes_drop (suc n) (x ∷ t) h = bytes_drop n t (and_parts (nat_lt x 256) (bytes t) h).1

pub bytes_append : (s t : List ℕ) → bytes s ≡ true → bytes t ≡ true → bytes (s ++ t) ≡ true
bytes_append [] t g h = h
bytes_append (x ∷ s) t g h = let p = and_parts (nat_lt x 256) (bytes s) g in and_from (nat_lt x 256) (bytes (s ++ t)) p.0 (bytes_append s t p.1 h)
