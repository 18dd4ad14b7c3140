-- What a sheet may hold, and which bytes are the writing of such a content.
use Rattle.std.specs.Prelude.{◌≡◌, ℕ, ◌^◌, ◌<◌, ◌≤◌, true, List, [], map, length, Ok, slice_index_or}
use Rattle.passes.specs.Bytes.{bytes}
use Rattle.passes.specs.Lawful.{Lawful}
use Rattle.passes.specs.Order.{Before}
use Rattle.sheets.specs.Sheets.{Word, Sheet, writes}
use Rattle.sheets.specs.Reading.{reads}

-- the form of the word at a place of the list
abbrev pub form_at : List Word → ℕ → List ℕ
form_at ws i = slice_index_or (map (λ w. w.form) ws) i []

-- a publication number and a step from 1, in four and in two bytes; 1 to 256 words with lawful forms, each before every later one
pub record Allowed (s : Sheet) : Type 0 where
  pub numbered : (1 ≤ s.head.number) × (s.head.number < 2 ^ 32)
  pub stepped : (1 ≤ s.head.step) × (s.head.step < 2 ^ 16)
  pub some : 1 ≤ length s.words
  pub few : length s.words ≤ 256
  pub shaped : (i : ℕ) → i < length s.words → Lawful (form_at s.words i)
  pub rising : (i j : ℕ) → i < j → j < length s.words → Before (form_at s.words i) (form_at s.words j)

-- bytes that are the writing of a content that is allowed
pub record Written (bs : List ℕ) : Type 0 where
  pub sheet : Sheet
  pub allowed : Allowed sheet
  pub bytes_are : writes sheet ≡ bs

pub record LayoutLaw : Type 0 where
  -- reading what was written gives back what was written
  pub read_back : (s : Sheet) → Allowed s → reads (writes s) ≡ Ok s
  -- what is read from bytes is allowed, and its writing is those bytes
  pub written_again : (bs : List ℕ) (s : Sheet) → bytes bs ≡ true → reads bs ≡ Ok s → Allowed s × (writes s ≡ bs)
  -- bytes are the writing of one allowed content at most
  pub unique : (s t : Sheet) → Allowed s → Allowed t → writes s ≡ writes t → s ≡ t
  -- a writing is made of bytes, at most 6,929 of them
  pub in_bytes : (s : Sheet) → Allowed s → bytes (writes s) ≡ true
  pub longest : (s : Sheet) → Allowed s → length (writes s) ≤ 6929
