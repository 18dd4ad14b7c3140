-- Reading fields: each is judged wholly before the next.
use Rattle.std.specs.Prelude.{ℕ, ◌+◌, ◌*◌, ◌/◌, ◌%◌, cond, ◌&&◌, List, [], ◌∷◌, ◌++◌, length, take, Ok, Err, Result, ◌==◌, nat_le, nat_lt, slice_index}
use Rattle.murmur.specs.Hash.{murmur}
use Rattle.refusals.specs.declared.Reason.{Reason}
use Rattle.refusals.specs.declared.Reason.TheVariants.{BadLength, WrongCheck, BytesLeft}
use Rattle.refusals.specs.declared.Refusal.{Refusal}
use Rattle.refusals.specs.Numbers.{refused}
use Rattle.fields.specs.Fields.{field, header_at, body_at}

abbrev pub then : {A B E : Type 0} → Result A E → (A → Result B E) → Result B E
then (Ok a) f = f a
then (Err e) f = Err e

-- what was found in a body, or the refusal of its field
abbrev pub in_field : {A : Type 0} → ℕ → ℕ → Result A Reason → Result A Refusal
in_field tag place (Ok a) = Ok a
in_field tag place (Err r) = Err (refused r tag place)

-- the body of the field at a place, where a tag is due, with a length between two bounds
unfoldable pub field_at : ℕ → ℕ → ℕ → List ℕ → ℕ → Result (List ℕ) Refusal
field_at due low high input at =
    then (header_at input at due) (λ h. cond (nat_le low h.len && nat_le h.len high) (body_at input (at + 3) h) (Err (refused BadLength due at)))

-- what is found in the body of the field at a place
abbrev pub content_at : {A : Type 0} → (List ℕ → Result A Reason) → ℕ → ℕ → ℕ → List ℕ → ℕ → Result A Refusal
content_at found due low high input at = then (field_at due low high input at) (λ b. in_field due at (found b))

-- the number in four bytes from a place on, the high one first
abbrev pub four : List ℕ → ℕ → ℕ
four b i = slice_index b i * 16777216 + slice_index b (i + 1) * 65536 + slice_index b (i + 2) * 256 + slice_index b (i + 3)

-- the number in two bytes
abbrev pub two : List ℕ → ℕ → ℕ
two b i = slice_index b i * 256 + slice_index b (i + 1)

-- a number of four bytes, the high one first
abbrev pub be4 : ℕ → List ℕ
be4 n = (n / 16777216 % 256) ∷ (n / 65536 % 256) ∷ (n / 256 % 256) ∷ (n % 256) ∷ []

-- the check of the bytes before it: their hash
unfoldable pub check_field : List ℕ → List ℕ
check_field before = field 0xFF (be4 (murmur 0 before))

-- bytes, and their check behind them
abbrev pub checked : List ℕ → List ℕ
checked before = before ++ check_field before

-- the hash of all bytes before the check, and nothing behind it
abbrev pub check_in : List ℕ → ℕ → List ℕ → Result (Unit {0}) Refusal
check_in input at b =
    cond (four b 0 == murmur 0 (take at input))
    (cond (nat_lt (at + 7) (length input)) (Err (refused BytesLeft 0 (at + 7))) (Ok tt))
    (Err (refused WrongCheck 0xFF at))

unfoldable pub check_at : List ℕ → ℕ → Result (Unit {0}) Refusal
check_at input at = then (field_at 0xFF 4 4 input at) (check_in input at)
