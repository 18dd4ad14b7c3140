-- The order of written forms: byte by byte, a prefix first.
use Rattle.std.specs.Prelude.{◌≡◌, ℕ, ◌<◌, Bool, true, false, cond, ◌⊎◌, List, [], ◌∷◌, Decides, ◌==◌, nat_lt}

pub data Before : List ℕ → List ℕ → Type 0 where
  shorter : {y : ℕ} {ys : List ℕ} → Before [] (y ∷ ys)
  lower : {x y : ℕ} {xs ys : List ℕ} → x < y → Before (x ∷ xs) (y ∷ ys)
  later : {x : ℕ} {xs ys : List ℕ} → Before xs ys → Before (x ∷ xs) (x ∷ ys)

-- the same as a test
abbrev pub before : List ℕ → List ℕ → Bool
before [] [] = false
before [] (y ∷ ys) = true
before (x ∷ xs) [] = false
before (x ∷ xs) (y ∷ ys) = cond (x == y) (before xs ys) (nat_lt x y)

-- what makes it a strict total order, and a test decides it
pub record StrictOrder : Type 0 where
  pub never_itself : (x : List ℕ) → Before x x → ⊥
  pub onward : (x y z : List ℕ) → Before x y → Before y z → Before x z
  pub total : (x y : List ℕ) → (x ≡ y) ⊎ (Before x y ⊎ Before y x)
  pub tested : (x y : List ℕ) → Decides (before x y) (Before x y)
