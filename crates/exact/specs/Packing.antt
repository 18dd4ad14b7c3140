-- What saved bytes are, said of the whole.
use Rattle.std.specs.Prelude.{◌≡◌, ℕ, ◌<◌, ◌≤◌, true, List, [], ◌∷◌, ◌++◌, length, None, slice_index_or}
use Rattle.passes.specs.Lawful.{Lawful}
use Rattle.passes.specs.Order.{Before}
use Rattle.filters.specs.declared.Hashing.{Hashing}
use Rattle.filters.specs.Kind.{unsorted, hashes_allowed, judged}
use Rattle.exact.specs.Rows.{row, pack, judge_rows}
use Rattle.exact.specs.Exact.{ExactView, exact_kind}

-- forms that a list may keep: at most 64, each lawful, each before every later one
pub record Roll (fs : List (List ℕ)) : Type 0 where
  pub few : length fs ≤ 64
  pub shaped : (i : ℕ) → i < length fs → Lawful (slice_index_or fs i [])
  pub rising : (i j : ℕ) → i < j → j < length fs → Before (slice_index_or fs i []) (slice_index_or fs j [])

-- bytes that are the packing of such forms
pub record Packing (body : List ℕ) : Type 0 where
  pub forms : List (List ℕ)
  pub kept : Roll forms
  pub packed : pack forms ≡ body

-- bytes whose first row at fault is at fault by its place alone: rows that may be kept, room for one more, and then
-- the row of a lawful form that does not stand above them
pub record Misplaced (body : List ℕ) : Type 0 where
  pub forms : List (List ℕ)
  pub next : List ℕ
  pub more : List ℕ
  pub kept : Roll forms
  pub room : length forms < 64
  pub shaped : Lawful next
  pub low : Roll (forms ++ next ∷ []) → ⊥
  pub packed : pack forms ++ (row next ++ more) ≡ body

pub record PackingLaw : Type 0 where
  -- load accepts exactly the packings, under every hash count that is allowed
  pub sufficient : (hashes : ℕ) (body : List ℕ) → hashes_allowed hashes ≡ true → Packing body → judged exact_kind hashes body ≡ None
  pub necessary : (hashes : ℕ) (body : List ℕ) → judged exact_kind hashes body ≡ None → Packing body
  -- rows are refused as not ascending exactly if the first at fault is so by its place alone, and else for a bad value
  pub unsorted_if : (body : List ℕ) → Misplaced body → judge_rows body ≡ unsorted
  pub unsorted_only : (body : List ℕ) → judge_rows body ≡ unsorted → Misplaced body
  -- bytes are the packing of one list of forms at most
  pub unique : (fs gs : List (List ℕ)) → pack fs ≡ pack gs → fs ≡ gs
  -- what is loaded is saved again byte for byte, and what is saved is loaded again as it was
  pub load_save : (h : Hashing) (body : List ℕ) → judged exact_kind h.hashes body ≡ None → exact_kind.saved (exact_kind.loaded h body) ≡ body
  pub save_load : (v : ExactView) → exact_kind.loaded v.hashing (exact_kind.saved v) ≡ v
