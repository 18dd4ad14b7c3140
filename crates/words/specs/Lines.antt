-- The words of a line.
use Rattle.std.specs.Prelude.{ℕ, Bool, cond, ◌||◌, List, [], ◌∷◌, ◌++◌, ◌==◌}

-- a space, a tab or a carriage return
abbrev pub blank : ℕ → Bool
blank b = b == 32 || (b == 9 || b == 13)

-- a word that has come to its end, unless it has no byte, before the words behind it
abbrev pub ended : List ℕ → List (List ℕ) → List (List ℕ)
ended [] ws = ws
ended (b ∷ bs) ws = (b ∷ bs) ∷ ws

-- the words of what follows, the first of which begins with the bytes w
unfoldable pub words_from : List ℕ → List ℕ → List (List ℕ)
words_from w [] = ended w []
words_from w (b ∷ bs) = cond (blank b) (ended w (words_from [] bs)) (words_from (w ++ b ∷ []) bs)

abbrev pub words_of : List ℕ → List (List ℕ)
words_of line = words_from [] line
