-- Which lines are ignored, and what comes of a line.
use Rattle.std.specs.Prelude.{◌≡◌, ℕ, Bool, true, false, List, [], ◌∷◌, ◌++◌, ◌==◌}
use Rattle.words.specs.Lines.{words_of}
use Rattle.desk.specs.Held.{Same}
use Rattle.console.specs.declared.console.Console.{Console}
use Rattle.console.specs.declared.console.Outcome.{Outcome}
use Rattle.console.specs.declared.console.Outcome.TheVariants.{Ignored, Done, Failed}

-- a comment begins with #
abbrev pub comment : List ℕ → Bool
comment [] = false
comment (b ∷ w) = b == 35

-- a line without a word, or a comment
abbrev pub ignored : List (List ℕ) → Bool
ignored [] = true
ignored (w ∷ ws) = comment w

abbrev pub is_ignored : Outcome → Bool
is_ignored Ignored = true
is_ignored Done = false
is_ignored Failed = false

abbrev pub is_done : Outcome → Bool
is_done Ignored = false
is_done Done = true
is_done Failed = false

-- A line is ignored if it is blank or a comment; what isn't done changes nothing; and an answer is added at the end.
pub record Answered (x y : Console) (line before after : List ℕ) (o : Outcome) : Type 0 where
  pub which : is_ignored o ≡ ignored (words_of line)
  pub kept : is_done o ≡ false → Same x.desk y.desk
  pub more : (added : List ℕ) × (after ≡ before ++ added) × (is_ignored o ≡ true → added ≡ [])
