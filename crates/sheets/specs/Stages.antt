-- One field of a sheet at each stage of its reading.
use Rattle.std.specs.Prelude.{ℕ, ◌+◌, ◌-◌, cond, List, map, Ok, Result}
use Rattle.refusals.specs.declared.Refusal.{Refusal}
use Rattle.fields.specs.Reading.{then, check_at}
use Rattle.sheets.specs.declared.Stage.{Stage}
use Rattle.sheets.specs.declared.Stage.TheVariants.{Head, Words, Done}
use Rattle.sheets.specs.declared.SheetHead.{SheetHead}
use Rattle.sheets.specs.declared.SheetWord.{SheetWord}
use Rattle.sheets.specs.declared.SheetField.{SheetField}
use Rattle.sheets.specs.declared.SheetField.TheVariants.{Head as AsHead, Word as AsWord, End as AsEnd}
use Rattle.sheets.specs.Sheets.{Word, Sheet}
use Rattle.sheets.specs.Reading.{head_at, word_at, check_due, behind}

-- what a field holds
pub data Content : Type 0 where
  head : SheetHead → Content
  word : Word → Content
  end : Content

abbrev pub word_of : SheetWord → Word
word_of w = record { side = w.side; form = w.form.now }

abbrev pub sheet_of : SheetHead → List SheetWord → Sheet
sheet_of h ws = record { head = h; words = map word_of ws }

abbrev pub content_of : SheetField → Content
content_of (AsHead h) = head h
content_of (AsWord w) = word (word_of w)
content_of AsEnd = end

-- where a reader stands: which field is due, the last form, the place of the first byte not read yet
pub record State : Type 0 where
  pub stage : Stage
  pub last : List ℕ
  pub at : ℕ

abbrev pub standing : Stage → List ℕ → ℕ → State
standing stage last at = record { stage = stage; last = last; at = at }

-- the next field, and where the reader stands behind it
abbrev pub next_at : List ℕ → Stage → List ℕ → ℕ → Result (Content × State) Refusal
next_at input Head last at = then (head_at input at) (λ h. Ok (head h, standing (Words 256) last (at + 10)))
next_at input (Words room) last at =
    cond (check_due room input at) (then (check_at input at) (λ _. Ok (end, standing Done last (at + 7))))
    (then (word_at last input at) (λ w. Ok (word w, standing (Words (room - 1)) w.form (behind at w))))
next_at input Done last at = Ok (end, standing Done last at)
