-- The fields of a sheet composed by hand.
use Rattle.std.specs.Prelude.{ℕ, zero, suc, List, [], ◌∷◌, ◌++◌, vec_items}
use Rattle.passes.specs.Bytes.{be2}
use Rattle.fields.specs.Fields.{field}
use Rattle.fields.specs.Reading.{be4}
use Rattle.desk.specs.declared.draft.More.{More}
use Rattle.desk.specs.declared.draft.More.TheVariants.{Words, Row}
use Rattle.desk.specs.declared.span.Span.{Span}
use Rattle.desk.specs.Passes.{pass_form}
use Rattle.desk.specs.Spans.{pass_at}

-- the head: edition, publication number, step
abbrev pub head_field : ℕ → ℕ → ℕ → List ℕ
head_field edition number step = field 0x21 (edition ∷ (be4 number ++ be2 step))

-- a word: the byte of its side, and a form
abbrev pub word_field : ℕ → List ℕ → List ℕ
word_field side form = field 0x22 (side ∷ form)

-- a row of coverage: the byte of its kind, the issuer, and the first and last day
abbrev pub row_field : ℕ → ℕ → ℕ → ℕ → List ℕ
row_field kind issuer first last = field 0x23 (kind ∷ (be2 issuer ++ (be2 first ++ be2 last)))

-- a word for each of the first passes of a span
unfoldable pub span_words : ℕ → Span → ℕ → List ℕ
span_words side s zero = []
span_words side s (suc n) = span_words side s n ++ word_field side (pass_form (pass_at s n))

-- the fields that are to be added, and how many words and rows they are
abbrev pub more_fields : More → List ℕ
more_fields (Words fields count) = vec_items fields
more_fields (Row field) = vec_items field

abbrev pub more_words : More → ℕ
more_words (Words fields count) = count
more_words (Row field) = 0

abbrev pub more_rows : More → ℕ
more_rows (Words fields count) = 0
more_rows (Row field) = 1
