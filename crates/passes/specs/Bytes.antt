-- Lists of bytes.
use Rattle.std.specs.Prelude.{ℕ, zero, suc, ◌/◌, ◌%◌, Bool, true, ◌&&◌, List, [], ◌∷◌, nat_lt}

-- each is below 256
abbrev pub bytes : List ℕ → Bool
bytes [] = true
bytes (x ∷ xs) = nat_lt x 256 && bytes xs

-- a number of two bytes, the high one first
abbrev pub be2 : ℕ → List ℕ
be2 n = (n / 256 % 256) ∷ (n % 256) ∷ []

-- a number of eight bytes, the high one first
abbrev pub be8 : ℕ → List ℕ
be8 n = (n / 72057594037927936 % 256) ∷ (n / 281474976710656 % 256) ∷ (n / 1099511627776 % 256) ∷ (n / 4294967296 % 256) ∷ (n / 16777216 % 256) ∷ (n / 65536 % 256) ∷ (n / 256 % 256) ∷ (n % 256) ∷ []

-- k bytes from the front of a list, 0 past its end
abbrev pub firsts : ℕ → List ℕ → List ℕ
firsts zero xs = []
firsts (suc k) [] = 0 ∷ firsts k []
firsts (suc k) (x ∷ xs) = (x % 256) ∷ firsts k xs
