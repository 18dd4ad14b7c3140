-- The exact list as a kind of filter.
use Rattle.std.specs.Prelude.{ℕ, Bool, true, cond, ◌&&◌, ◌||◌, List, [], length, ◌==◌, nat_le, nat_lt}
use Rattle.filters.specs.declared.Hashing.{Hashing}
use Rattle.filters.specs.Kind.{Kind, hashes_allowed}
use Rattle.exact.specs.Rows.{pack, forms_of, stands, added, keepable, judge_rows}

-- how it hashes, though it never does, and the forms that stand; the size of its table never changes
pub record ExactView : Type 0 where
  pub hashing : Hashing
  pub forms : List (List ℕ)

-- a table of 64 rows, each of at most 24 bytes
abbrev pub exact_allows : ℕ → ℕ → Bool
exact_allows size hashes = size == 1536 && hashes_allowed hashes

-- before any clear
abbrev pub first_hashing : Hashing
first_hashing = record { salt = 0; level = 1; hashes = 1 }

-- a form that stands already is taken, and any other unless 64 stand
abbrev pub exact_takes : List (List ℕ) → List ℕ → Bool
exact_takes fs x = stands x fs || nat_lt (length fs) 64

abbrev pub exact_put : List (List ℕ) → List ℕ → List (List ℕ)
exact_put fs x = cond (stands x fs) fs (added x fs)

abbrev pub exact_kind : Kind ExactView
exact_kind = record {
  allows = exact_allows;
  sound = λ v. hashes_allowed v.hashing.hashes && keepable v.forms;
  ready = λ v. true;
  settings = λ v. record { hashing = v.hashing; size = 1536 };
  blank = record { hashing = first_hashing; forms = [] };
  cleared = λ s. record { hashing = s.hashing; forms = [] };
  says = λ v x. stands x v.forms;
  takes = λ v x. exact_takes v.forms x;
  put = λ v x. record { hashing = v.hashing; forms = exact_put v.forms x };
  saved = λ v. pack v.forms;
  measures = λ n. nat_le n 1536;
  judges = judge_rows;
  loaded = λ h body. record { hashing = h; forms = forms_of body };
}

-- the view of rows in memory
abbrev pub exact_view : Hashing → List ℕ → ExactView
exact_view h body = record { hashing = h; forms = forms_of body }
