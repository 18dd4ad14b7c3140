-- Reading a sheet: field after field, each judged wholly before the next.
use Rattle.std.specs.Prelude.{ℕ, zero, suc, ◌+◌, Bool, false, cond, ◌&&◌, ◌||◌, List, [], ◌∷◌, length, drop, Some, None, Ok, Err, Option, Result, ◌==◌, nat_le, nat_lt, slice_index}
use Rattle.refusals.specs.declared.Reason.{Reason}
use Rattle.refusals.specs.declared.Reason.TheVariants.{BadValue, NotAscending}
use Rattle.refusals.specs.declared.Refusal.{Refusal}
use Rattle.passes.specs.Lawful.{lawful}
use Rattle.passes.specs.Order.{before}
use Rattle.fields.specs.Fields.{tag_at}
use Rattle.fields.specs.Reading.{then, content_at, four, two, check_at}
use Rattle.sheets.specs.declared.SheetHead.{SheetHead}
use Rattle.sheets.specs.declared.SheetSummary.{SheetSummary}
use Rattle.sheets.specs.Sides.{side_of}
use Rattle.sheets.specs.Sheets.{Word, Sheet}

-- edition 1, a number and a step from 1
abbrev pub head_in : List ℕ → Result SheetHead Reason
head_in b = cond (slice_index b 0 == 1 && (nat_lt 0 (four b 1) && nat_lt 0 (two b 5))) (Ok (record { number = four b 1; step = two b 5 })) (Err BadValue)

unfoldable pub head_at : List ℕ → ℕ → Result SheetHead Refusal
head_at input at = content_at head_in 0x21 7 7 input at

-- a side and a lawful form, which stands above the last one
abbrev pub word_in : List ℕ → List ℕ → Result Word Reason
word_in last b =
    cond (nat_le (slice_index b 0) 1 && lawful (drop 1 b))
    (cond (before last (drop 1 b)) (Ok (record { side = side_of (slice_index b 0); form = drop 1 b })) (Err NotAscending))
    (Err BadValue)

unfoldable pub word_at : List ℕ → List ℕ → ℕ → Result Word Refusal
word_at last input at = content_at (word_in last) 0x22 5 24 input at

abbrev pub is_check : Option ℕ → Bool
is_check None = false
is_check (Some tag) = tag == 0xFF

-- with room for so many words out of 256, the check is due if there is no room, and if it is found behind a word
abbrev pub check_due : ℕ → List ℕ → ℕ → Bool
check_due room input at = room == 0 || (nat_lt room 256 && is_check (tag_at input at))

-- the place behind a word
abbrev pub behind : ℕ → Word → ℕ
behind at w = at + (4 + length w.form)

-- the words from a place on, with room for so many, each above the last, and the check behind them
unfoldable pub words_from : ℕ → List ℕ → List ℕ → ℕ → Result (List Word) Refusal
words_from zero last input at = then (check_at input at) (λ _. Ok [])
words_from (suc room) last input at =
    cond (check_due (suc room) input at) (then (check_at input at) (λ _. Ok []))
    (then (word_at last input at) (λ w. then (words_from room w.form input (behind at w)) (λ ws. Ok (w ∷ ws))))

-- a whole sheet: the head, then 1 to 256 words, then the check; every form stands above the empty one
unfoldable pub reads : List ℕ → Result Sheet Refusal
reads input = then (head_at input 0) (λ h. then (words_from 256 [] input 10) (λ ws. Ok (record { head = h; words = ws })))

abbrev pub summary : Sheet → SheetSummary
summary s = record { head = s.head; words = length s.words }
