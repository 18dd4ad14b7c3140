-- Names of buffers.
use Rattle.std.specs.Prelude.{ℕ, Bool, ◌&&◌, ◌||◌, List, length, ◌==◌, nat_le}
use Rattle.std.specs.Char.{is_ascii_alphanumeric}
use Rattle.std.specs.List.{list_all}

-- a letter, a digit or an underscore
abbrev pub letter : ℕ → Bool
letter b = is_ascii_alphanumeric b || b == 95

-- every byte is such a letter
abbrev pub lettered : List ℕ → Bool
lettered w = list_all letter w

-- 1 to 16 of them
abbrev pub is_name : List ℕ → Bool
is_name w = nat_le 1 (length w) && (nat_le (length w) 16 && lettered w)
