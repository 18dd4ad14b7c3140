-- Rows: written forms packed one behind the other, each behind its length.
use Rattle.std.specs.Prelude.{ℕ, zero, suc, ◌+◌, Bool, true, cond, ◌&&◌, List, [], ◌∷◌, ◌++◌, length, take, drop, nat_le, slice_index}
use Rattle.std.specs.Str.{bytes_eq}
use Rattle.std.specs.List.{list_any}
use Rattle.passes.specs.Lawful.{lawful}
use Rattle.passes.specs.Order.{before}
use Rattle.filters.specs.Kind.{Content, fine, misvalued, unsorted}

abbrev pub row : List ℕ → List ℕ
row f = length f ∷ f

abbrev pub pack : List (List ℕ) → List ℕ
pack [] = []
pack (f ∷ fs) = row f ++ pack fs

-- the form of the first row, and what is behind the row; a row that is cut short counts by what there is of it
abbrev pub first_form : List ℕ → List ℕ
first_form body = take (slice_index body 0) (drop 1 body)

abbrev pub behind_first : List ℕ → List ℕ
behind_first body = drop (slice_index body 0) (drop 1 body)

-- the forms of the first n rows
abbrev pub first_forms : ℕ → List ℕ → List (List ℕ)
first_forms zero body = []
first_forms (suc n) [] = []
first_forms (suc n) (k ∷ rest) = take k rest ∷ first_forms n (drop k rest)

-- the forms of all rows, which are no more than the bytes
abbrev pub forms_of : List ℕ → List (List ℕ)
forms_of body = first_forms (length body) body

-- whether a form is among those that stand
abbrev pub stands : List ℕ → List (List ℕ) → Bool
stands x fs = list_any (λ f. bytes_eq f x) fs

-- a form added behind those before it
abbrev pub added : List ℕ → List (List ℕ) → List (List ℕ)
added x [] = x ∷ []
added x (f ∷ fs) = cond (before f x) (f ∷ added x fs) (x ∷ f ∷ fs)

-- how many bytes the rows before that place have
abbrev pub place : List ℕ → List (List ℕ) → ℕ
place x [] = 0
place x (f ∷ fs) = cond (before f x) (suc (length f) + place x fs) 0

abbrev pub all_lawful : List (List ℕ) → Bool
all_lawful [] = true
all_lawful (f ∷ fs) = lawful f && all_lawful fs

-- each form stands above the one before it, and the first above `last`
abbrev pub above : List ℕ → List (List ℕ) → Bool
above last [] = true
above last (f ∷ fs) = before last f && above f fs

-- a list keeps at most 64 lawful forms, strictly ascending; every form stands above the empty one
abbrev pub keepable : List (List ℕ) → Bool
keepable fs = nat_le (length fs) 64 && (all_lawful fs && above [] fs)

-- the row behind a length byte has 4 to 23 bytes and is not cut short
abbrev pub whole : ℕ → List ℕ → Bool
whole k rest = (nat_le 4 k && nat_le k 23) && nat_le k (length rest)

-- Rows judged one by one, with room for so many, the first above `last`.
-- A row is judged by its length, its form and the room, and then by the order.
unfoldable pub judge_from : ℕ → List ℕ → List ℕ → Content
judge_from room last [] = fine
judge_from zero last (k ∷ rest) = misvalued
judge_from (suc room) last (k ∷ rest) = cond (whole k rest && lawful (take k rest)) (cond (before last (take k rest)) (judge_from room (take k rest) (drop k rest)) unsorted) misvalued

-- at most 64 rows
abbrev pub judge_rows : List ℕ → Content
judge_rows body = judge_from 64 [] body
