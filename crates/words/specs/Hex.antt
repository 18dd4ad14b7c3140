-- Bytes in hexadecimal digits.
use Rattle.std.specs.Prelude.{ℕ, ◌+◌, ◌-◌, ◌*◌, Bool, cond, ◌&&◌, List, [], ◌∷◌, length, Some, None, Option, ◌==◌, nat_le}

abbrev from_to : ℕ → ℕ → ℕ → Bool
from_to low high b = nat_le low b && nat_le b high

-- the value of a digit, capital or small
abbrev pub digit_of : ℕ → Option ℕ
digit_of b =
    cond (from_to 48 57 b) (Some (b - 48))
    (cond (from_to 65 70 b) (Some (b - 65 + 10))
    (cond (from_to 97 102 b) (Some (b - 97 + 10)) None))

abbrev both : Option ℕ → Option ℕ → Option ℕ
both None y = None
both (Some x) None = None
both (Some x) (Some y) = Some (16 * x + y)

-- the byte that two digits write
abbrev pub pair_of : ℕ → ℕ → Option ℕ
pair_of a b = both (digit_of a) (digit_of b)

abbrev pub before : Option ℕ → Option (List ℕ) → Option (List ℕ)
before None ys = None
before (Some x) None = None
before (Some x) (Some ys) = Some (x ∷ ys)

-- two digits for each byte
unfoldable pub pairs_of : List ℕ → Option (List ℕ)
pairs_of [] = Some []
pairs_of (a ∷ []) = None
pairs_of (a ∷ b ∷ w) = before (pair_of a b) (pairs_of w)

-- one byte at least, or `-` for none
abbrev pub bytes_of : List ℕ → Option (List ℕ)
bytes_of [] = None
bytes_of (a ∷ w) = cond (a == 45 && length w == 0) (Some []) (pairs_of (a ∷ w))
