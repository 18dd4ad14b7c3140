-- Decimal numbers.
use Rattle.std.specs.Prelude.{ℕ, ◌+◌, ◌-◌, ◌*◌, ◌≤◌, cond, ◌&&◌, List, [], ◌∷◌, length, Some, None, Option, nat_le}
use Rattle.std.specs.Char.{is_ascii_digit}

-- the number that the digits write behind those that wrote n; none if a byte is no digit
unfoldable pub reads : ℕ → List ℕ → Option ℕ
reads n [] = Some n
reads n (b ∷ bs) = cond (is_ascii_digit b) (reads (10 * n + (b - 48)) bs) None

abbrev pub in_range : ℕ → ℕ → Option ℕ → Option ℕ
in_range low high None = None
in_range low high (Some n) = cond (nat_le low n && nat_le n high) (Some n) None

-- 1 to 20 digits, and a value from low to high
abbrev pub number_of : ℕ → ℕ → List ℕ → Option ℕ
number_of low high w = cond (nat_le 1 (length w) && nat_le (length w) 20) (in_range low high (reads 0 w)) None

abbrev pub Within : ℕ → ℕ → Option ℕ → Type 0
Within low high None = Unit {0}
Within low high (Some n) = (low ≤ n) × (n ≤ high)
