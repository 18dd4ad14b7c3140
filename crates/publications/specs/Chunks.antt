-- Coverage rows, each as its seven bytes.
use Rattle.std.specs.Prelude.{ℕ, Bool, ◌&&◌, List, ◌==◌, slice_index}
use Rattle.fields.specs.Reading.{two}

-- two rows have the same kind and issuer
abbrev pub same_two : List ℕ → List ℕ → Bool
same_two x y = slice_index x 0 == slice_index y 0 && two x 1 == two y 1
