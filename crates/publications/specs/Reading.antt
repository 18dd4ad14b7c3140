-- Reading a publication: field after field, each judged wholly before the next.
use Rattle.std.specs.Prelude.{◌≡◌, ℕ, zero, suc, ◌+◌, ◌*◌, ◌/◌, ◌%◌, Bool, false, cond, ◌&&◌, ◌||◌, List, [], ◌∷◌, length, is_some, Some, None, Ok, Err, Option, Result, ◌==◌, nat_le, nat_lt, slice_index}
use Rattle.refusals.specs.declared.Reason.{Reason}
use Rattle.refusals.specs.declared.Reason.TheVariants.{BadValue, NotAscending}
use Rattle.refusals.specs.declared.Refusal.{Refusal}
use Rattle.fields.specs.Reading.{then, content_at, four, two, check_at}
use Rattle.filters.specs.Kind.{hashes_allowed}
use Rattle.levels.specs.Deciders.{Table, table_in, tables_at, table_fields}
use Rattle.passes.specs.declared.kind.PassKind.{PassKind}
use Rattle.passes.specs.Kinds.{kind_of}
use Rattle.publications.specs.declared.CoverageRow.{CoverageRow}
use Rattle.publications.specs.declared.PublicationHead.{PublicationHead}
use Rattle.publications.specs.Publications.{Content}

-- How the tables of each make that a reader knows are judged, level by level; none for a make that it doesn't know.
abbrev pub Makes : Type 0
Makes = ℕ → Option (List Table)

-- the makes 1 and 2 with their tables, and one's own, which comes first
abbrev pub known_makes : List Table → List Table → List Table → ℕ → Makes
known_makes one two mine own make = cond (make == own) (Some mine) (cond (make == 1) (Some one) (cond (make == 2) (Some two) None))

-- edition 1, a known make, a hash count from 1 to 8, a number from 1
abbrev pub head_in : Makes → List ℕ → Result PublicationHead Reason
head_in makes b =
    cond (slice_index b 0 == 1 && (is_some (makes (slice_index b 1)) && (hashes_allowed (slice_index b 2) && nat_lt 0 (four b 5))))
    (Ok (record { make = slice_index b 1; hashes = slice_index b 2; salt = two b 3; number = four b 5 }))
    (Err BadValue)

unfoldable pub head_at : Makes → List ℕ → ℕ → Result PublicationHead Refusal
head_at makes input at = content_at (head_in makes) 0x01 9 9 input at

-- issue days from the first to the last
abbrev pub with_kind : Option PassKind → ℕ → ℕ → ℕ → Option CoverageRow
with_kind None issuer first last = None
with_kind (Some kind) issuer first last = cond (nat_le first last) (Some (record { kind = kind; issuer = issuer; first = first; last = last })) None

-- the row of seven bytes at a place; none if it isn't allowed
abbrev pub row_at : List ℕ → ℕ → Option CoverageRow
row_at b at = with_kind (kind_of (slice_index b at)) (two b (at + 1)) (two b (at + 3)) (two b (at + 5))

-- the rows at two places have the same kind and issuer
abbrev pub same_key : List ℕ → ℕ → ℕ → Bool
same_key b x y = slice_index b x == slice_index b y && two b (x + 1) == two b (y + 1)

-- the row at a place has the kind and issuer of one of the first n rows
abbrev pub repeats : List ℕ → ℕ → ℕ → Bool
repeats b zero at = false
repeats b (suc n) at = repeats b n at || same_key b (7 * n) at

-- n rows, the first of which is the i-th, each judged before the next: not allowed, then repeated
unfoldable pub rows_from : ℕ → ℕ → List ℕ → Result (List CoverageRow) Reason
rows_from zero i b = Ok []
rows_from (suc n) i b = elim (row_at b (7 * i)) [ None ↦ Err BadValue | Some r ↦ cond (repeats b i (7 * i)) (Err NotAscending) (then (rows_from n (i + 1) b) (λ rs. Ok (r ∷ rs))) ]

-- all rows of a body
abbrev pub rows_in : List ℕ → Result (List CoverageRow) Reason
rows_in b = rows_from (length b / 7) 0 b

abbrev pub reason_of : {A : Type 0} → Result A Reason → Option Reason
reason_of (Ok a) = None
reason_of (Err r) = Some r

-- an answer without the rows: accepted, or for the same reason not
abbrev pub JudgesAs : {A : Type 0} → Result (Unit {0}) Reason → Result A Reason → Type 0
JudgesAs (Ok u) t = reason_of t ≡ None
JudgesAs (Err r) t = reason_of t ≡ Some r

-- 1 to 64 rows, judged one by one; the hash count does not matter
abbrev pub coverage_judge : Table
coverage_judge = record { measures = λ n. nat_le 7 n && (nat_le n 448 && n % 7 == 0); judged = λ _ b. reason_of (rows_in b) }

abbrev pub unsaid : {A : Type 0} → Result (List A) Reason → List A
unsaid (Ok a) = a
unsaid (Err r) = []

abbrev pub known_tables : Option (List Table) → List Table
known_tables None = []
known_tables (Some ts) = ts

-- a whole publication: the head, the coverage, the tables by the make read, the check
unfoldable pub reads : Makes → List ℕ → Result Content Refusal
reads makes input =
    then (head_at makes input 0) (λ h.
    then (table_in coverage_judge 0x02 h.hashes input 12) (λ c.
    then (tables_at (known_tables (makes h.make)) 1 h.hashes input (15 + length c)) (λ ts.
    then (check_at input (15 + length c + length (table_fields 1 ts))) (λ _.
    Ok (record { head = h; coverage = unsaid (rows_in c); tables = ts })))))
