-- Registers under marks, and one turn of each loop over them.
use Rattle.std.proofs.Common.{◌≡◌, ℕ, zero, suc, ◌+◌, ◌<◌, ◌≤◌, true, false, cond, List, [], ◌∷◌, map, length, get_or, drop, Ok, Err, sym, refl, ap, ◌∙◌, add-one, arith, eq-eqb, ne_eqb}
use Rattle.filters.specs.Kind.{Kind}
use Rattle.levels.specs.declared.Entry.{Entry}
use Rattle.levels.specs.Rows.{Row, rows}
use Rattle.levels.specs.Deciders.{fill, turn, remark}

abbrev pub row : {I : Type 0} → (I → List ℕ) → Entry I → ℕ → Row
row f e m = record { form = f e.id; mark = m }

drop_nothing : (i : ℕ) → ◌≡◌ {A = List Row} (drop i []) []
drop_nothing zero = refl
drop_nothing (suc i) = refl

module _ {I : Type 0} (f : I → List ℕ) where
  rows_suc : (es : List (Entry I)) (ms : List ℕ) (i : ℕ) (d : Entry I) → i < length es → length es ≡ length ms → drop i (rows f es ms) ≡ row f (get_or es i d) (get_or ms i 0) ∷ drop (suc i) (rows f es ms)
  rows_suc [] ms i d l n = absurd (omega arith)
  rows_suc (x ∷ es) [] i d l n = absurd (omega arith)
  rows_suc (x ∷ es) (m ∷ ms) zero d l n = refl
  rows_suc (x ∷ es) (m ∷ ms) (suc i) d l n = rows_suc es ms i d (omega arith) (omega arith)

  -- the row of the element that a loop is at
  pub rows_item : (es : List (Entry I)) (ms : List ℕ) (i : ℕ) (e : Entry I) → e ≡ get_or es i e → i < length es → length es ≡ length ms → drop i (rows f es ms) ≡ row f e (get_or ms i 0) ∷ drop (i + 1) (rows f es ms)
  rows_item es ms i e is l n = rw (add-one i) (rows_suc es ms i e l n) ∙ ap (λ (x : Entry I). row f x (get_or ms i 0) ∷ drop (i + 1) (rows f es ms)) (sym is)

  -- past the end nothing is left
  pub rows_end : (es : List (Entry I)) (ms : List ℕ) (i : ℕ) → length es ≤ i → drop i (rows f es ms) ≡ []
  rows_end [] ms i l = drop_nothing i
  rows_end (x ∷ es) [] i l = drop_nothing i
  rows_end (x ∷ es) (m ∷ ms) zero l = absurd (omega arith)
  rows_end (x ∷ es) (m ∷ ms) (suc i) l = rows_end es ms i (omega arith)

  pub rows_turned : {V : Type 0} (k : Kind V) (v : V) (es : List (Entry I)) (ms ns : List ℕ) → length es ≡ length ms → length ns ≡ length ms → ((j : ℕ) (d : Entry I) → j < length es → get_or ns j 0 ≡ remark k v (row f (get_or es j d) (get_or ms j 0))) → rows f es ns ≡ map (turn k v) (rows f es ms)
  rows_turned k v [] ms ns a b h = refl
  rows_turned k v (e ∷ es) [] ns a b h = absurd (omega arith)
  rows_turned k v (e ∷ es) (m ∷ ms) [] a b h = absurd (omega arith)
  rows_turned k v (e ∷ es) (m ∷ ms) (n ∷ ns) a b h =
      let here : n ≡ remark k v (row f e m) = h 0 e (omega arith) in
      let rest = rows_turned k v es ms ns (omega arith) (omega arith) (λ j d l. h (suc j) d (omega arith)) in
      ap (λ (y : ℕ). row f e y ∷ rows f es ns) here ∙ ap (λ (rs : List Row). turn k v (row f e m) ∷ rs) rest

module _ {V : Type 0} (k : Kind V) where
  pub fill_put : (v w : V) (i : ℕ) (r : Row) (rs : List Row) → r.mark ≡ 1 → k.takes v r.form ≡ true → w ≡ cond (k.takes v r.form) (k.put v r.form) v → fill k v i (r ∷ rs) ≡ fill k w (i + 1) rs
  unfolding fill
  fill_put v w i r rs one t e = rw (eq-eqb r.mark 1 one, e, t)

  pub fill_skip : (v : V) (i : ℕ) (r : Row) (rs : List Row) → (r.mark ≡ 1 → ⊥) → fill k v i (r ∷ rs) ≡ fill k v (i + 1) rs
  unfolding fill
  fill_skip v i r rs n = rw (ne_eqb r.mark 1 n)

  pub fill_stop : (v : V) (i : ℕ) (r : Row) (rs : List Row) → r.mark ≡ 1 → k.takes v r.form ≡ false → fill k v i (r ∷ rs) ≡ Err i
  unfolding fill
  fill_stop v i r rs one t = rw (eq-eqb r.mark 1 one, t)

  pub fill_done : (v : V) (i : ℕ) → fill k v i [] ≡ Ok v
  unfolding fill
  fill_done v i = refl

pub get_d_any : {X : Type 0} (xs : List X) (i : ℕ) (d e : X) → i < length xs → get_or xs i d ≡ get_or xs i e
get_d_any [] i d e l = absurd (omega arith)
get_d_any (x ∷ xs) zero d e l = refl
get_d_any (x ∷ xs) (suc i) d e l = get_d_any xs i d e (omega arith)
