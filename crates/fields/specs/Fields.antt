-- A field is a one-byte tag, a two-byte length and a body.
use Rattle.std.specs.Prelude.{ℕ, ◌+◌, ◌-◌, ◌*◌, Bool, cond, List, ◌∷◌, ◌++◌, length, take, drop, Some, None, Ok, Err, Option, Result, ◌==◌, nat_lt, slice_index}
use Rattle.refusals.specs.declared.Reason.TheVariants.{CutShort, WrongTag}
use Rattle.refusals.specs.declared.Refusal.{Refusal}
use Rattle.refusals.specs.Numbers.{refused}
use Rattle.passes.specs.Bytes.{be2}
use Rattle.fields.specs.declared.Header.{Header}

abbrev pub field : ℕ → List ℕ → List ℕ
field tag body = tag ∷ (be2 (length body) ++ body)

-- the tag found at a place of the input, if the three bytes of a header are there
abbrev pub tag_at : List ℕ → ℕ → Option ℕ
tag_at input at = cond (nat_lt (length input - at) 3) None (Some (slice_index input at))

-- the header that stands at a place of the input, where a tag is due
abbrev pub header_at : List ℕ → ℕ → ℕ → Result Header Refusal
header_at input at due =
    cond (nat_lt (length input - at) 3) (Err (refused CutShort due at))
    (cond (slice_index input at == due) (Ok (record { tag = due; place = at; len = slice_index input (at + 1) * 256 + slice_index input (at + 2) })) (Err (refused WrongTag due at)))

-- the body behind a header
abbrev pub body_at : List ℕ → ℕ → Header → Result (List ℕ) Refusal
body_at input at h = cond (nat_lt (length input - at) h.len) (Err (refused CutShort h.tag h.place)) (Ok (take h.len (drop at input)))

-- where the reader stands after a step of n bytes, if it was accepted
abbrev pub stepped : Bool → ℕ → ℕ → ℕ
stepped accepted at n = cond accepted (at + n) at
