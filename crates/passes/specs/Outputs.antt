-- Bytes written to an output that was lent.
use Rattle.std.specs.Prelude.{ℕ, cond, List, [], ◌∷◌, ◌++◌, length, drop, Some, None, Option, nat_le}

-- bytes written to the front of an output, if they fit
abbrev pub written_to : List ℕ → List ℕ → Option ℕ × List ℕ
written_to bs out = cond (nat_le (length bs) (length out)) (Some (length bs), bs ++ drop (length bs) out) (None, out)

-- the bytes of many things, one behind the other
abbrev pub joined : {A : Type 0} → (A → List ℕ) → List A → List ℕ
joined f [] = []
joined f (x ∷ xs) = f x ++ joined f xs
