-- Judging coverage rows one by one.
use Rattle.std.proofs.Common.{◌≡◌, ℕ, suc, ◌+◌, ◌-◌, ◌*◌, ◌<◌, ◌≤◌, true, false, cond, List, ◌∷◌, is_some, Some, None, Ok, Err, Option, Result, refl, ap, ◌∙◌, arith}
use Rattle.refusals.specs.declared.Reason.{Reason}
use Rattle.refusals.specs.declared.Reason.TheVariants.{BadValue, NotAscending}
use Rattle.fields.specs.Reading.{then}
use Rattle.publications.specs.declared.CoverageRow.{CoverageRow}
use Rattle.publications.specs.Reading.{row_at, repeats, rows_from, reason_of}

unfoldable pub with_row : ℕ → ℕ → List ℕ → Option CoverageRow → Result (List CoverageRow) Reason
with_row n i b o = elim o [ None ↦ Err BadValue | Some r ↦ cond (repeats b i (7 * i)) (Err NotAscending) (then (rows_from n (i + 1) b) (λ rs. Ok (r ∷ rs))) ]

pub one_row : (n i : ℕ) (b : List ℕ) → rows_from (suc n) i b ≡ with_row n i b (row_at b (7 * i))
unfolding rows_from with_row
one_row n i b = refl

same_reason : {A B : Type 0} (t : Result A Reason) (f : A → B) → reason_of (then t (λ a. Ok (f a))) ≡ reason_of t
same_reason (Ok a) f = refl
same_reason (Err r) f = refl

-- a number of rows left that is not zero
module _ (i : ℕ) (b : List ℕ) (n : ℕ) (l : i < n) where
  more : rows_from (n - i) i b ≡ with_row (n - (i + 1)) i b (row_at b (7 * i))
  more = let e : n - i ≡ suc (n - (i + 1)) = omega arith in ap (λ (k : ℕ). rows_from k i b) e ∙ one_row (n - (i + 1)) i b

  none : (o : Option CoverageRow) → is_some o ≡ false → reason_of (with_row (n - (i + 1)) i b o) ≡ Some BadValue
  unfolding with_row
  none None e = refl
  none (Some r) e = absurd (let z : ⊥ = grind arith in z)

  twice : (o : Option CoverageRow) → is_some o ≡ true → repeats b i (7 * i) ≡ true → reason_of (with_row (n - (i + 1)) i b o) ≡ Some NotAscending
  unfolding with_row
  twice None e t = absurd (let z : ⊥ = grind arith in z)
  twice (Some r) e t = rw t

  next : (o : Option CoverageRow) → is_some o ≡ true → repeats b i (7 * i) ≡ false → reason_of (with_row (n - (i + 1)) i b o) ≡ reason_of (rows_from (n - (i + 1)) (i + 1) b)
  unfolding with_row
  next None e t = absurd (let z : ⊥ = grind arith in z)
  next (Some r) e t = rw t (same_reason (rows_from (n - (i + 1)) (i + 1) b) (λ rs. r ∷ rs))

  pub not_allowed : is_some (row_at b (7 * i)) ≡ false → reason_of (rows_from (n - i) i b) ≡ Some BadValue
  not_allowed e = ap reason_of more ∙ none (row_at b (7 * i)) e

  pub repeated : is_some (row_at b (7 * i)) ≡ true → repeats b i (7 * i) ≡ true → reason_of (rows_from (n - i) i b) ≡ Some NotAscending
  repeated e t = ap reason_of more ∙ twice (row_at b (7 * i)) e t

  pub goes_on : is_some (row_at b (7 * i)) ≡ true → repeats b i (7 * i) ≡ false → reason_of (rows_from (n - i) i b) ≡ reason_of (rows_from (n - (i + 1)) (i + 1) b)
  goes_on e t = ap reason_of more ∙ next (row_at b (7 * i)) e t

pub no_more : (i n : ℕ) (b : List ℕ) → n ≤ i → reason_of (rows_from (n - i) i b) ≡ None
unfolding rows_from
no_more i n b l = let e : n - i ≡ 0 = omega arith in ap (λ (k : ℕ). reason_of (rows_from k i b)) e
