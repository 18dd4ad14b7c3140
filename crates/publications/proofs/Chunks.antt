-- Coverage rows, each as its seven bytes, and as places of the bytes of all.
use Rattle.std.proofs.Common.{◌≡◌, ℕ, zero, suc, ◌+◌, ◌*◌, ◌/◌, ◌<◌, ◌≤◌, Bool, ◌&&◌, ◌||◌, eqb, List, [], length, get_or, take, drop, refl, ap, ◌∙◌, add-one, arith, drop-drop}
use Rattle.std.proofs.lemmas.List.Folds.{list_any_more}
use Rattle.std.proofs.lemmas.List.{get_or-drop, get_or-take}
use Rattle.std.specs.List.{list_any}
use Rattle.std.specs.Simd.{first_chunks}
use Rattle.fields.specs.Reading.{two}
use Rattle.publications.specs.Reading.{row_at, same_key, repeats}
use Rattle.publications.specs.Chunks.{same_two}

-- row i of n
pub chunk_at : (n i : ℕ) (b d : List ℕ) → i < n → get_or (first_chunks 7 n b) i d ≡ take 7 (drop (7 * i) b)
chunk_at zero i b d l = absurd (omega arith)
chunk_at (suc n) zero b d l = refl
chunk_at (suc n) (suc i) b d l =
    chunk_at n i (drop 7 b) d (omega arith) ∙ ap (take 7) (drop-drop (7 * i) 7 b ∙ ap (λ (k : ℕ). drop k b) (let f : 7 + 7 * i ≡ 7 * suc i = omega arith in f))

module _ (b : List ℕ) (m : ℕ) where
  byte_of : (j : ℕ) → j < 7 → get_or (take 7 (drop m b)) j 0 ≡ get_or b (m + j) 0
  byte_of j l = get_or-take 7 (drop m b) j 0 l ∙ get_or-drop m b j 0

  two_of : (j : ℕ) → j < 6 → two (take 7 (drop m b)) j ≡ two b (m + j)
  two_of j l =
      let p = byte_of j (omega arith) in
      let q = byte_of (j + 1) (omega arith) in
      let e : m + (j + 1) ≡ m + j + 1 = omega arith in
      let r = q ∙ ap (λ (k : ℕ). get_or b k 0) e in
      ap (λ (x : ℕ). x * 256 + get_or (take 7 (drop m b)) (j + 1) 0) p ∙ ap (λ (x : ℕ). get_or b (m + j) 0 * 256 + x) r

  pub row_of : row_at (take 7 (drop m b)) 0 ≡ row_at b m
  row_of =
      let e : m + 0 ≡ m = omega arith in
      let k = byte_of 0 (omega arith) ∙ ap (λ (j : ℕ). get_or b j 0) e in
      let i = two_of 1 (omega arith) in
      let f = two_of 3 (omega arith) in
      let l = two_of 5 (omega arith) in
      cc

module _ (b : List ℕ) (n m : ℕ) where
  pub same_of : same_two (take 7 (drop n b)) (take 7 (drop m b)) ≡ same_key b n m
  same_of =
      let y : n + 0 ≡ n = omega arith in
      let z : m + 0 ≡ m = omega arith in
      let p = byte_of b n 0 (omega arith) ∙ ap (λ (j : ℕ). get_or b j 0) y in
      let q = byte_of b m 0 (omega arith) ∙ ap (λ (j : ℕ). get_or b j 0) z in
      let r = two_of b n 1 (omega arith) in
      let s = two_of b m 1 (omega arith) in
      ap (λ (k : ℕ). eqb k (get_or (take 7 (drop m b)) 0 0) && eqb (two (take 7 (drop n b)) 1) (two (take 7 (drop m b)) 1)) p
      ∙ ap (λ (k : ℕ). eqb (get_or b n 0) k && eqb (two (take 7 (drop n b)) 1) (two (take 7 (drop m b)) 1)) q
      ∙ ap (λ (k : ℕ). eqb (get_or b n 0) (get_or b m 0) && eqb k (two (take 7 (drop m b)) 1)) r
      ∙ ap (λ (k : ℕ). eqb (get_or b n 0) (get_or b m 0) && eqb (two b (n + 1)) k) s

pub length_chunks : (n : ℕ) (b : List ℕ) → length (first_chunks 7 n b) ≡ n
length_chunks zero b = refl
length_chunks (suc n) b = ap suc (length_chunks n (drop 7 b))

-- the rows before row i, of n
pub repeats_of : (n i j : ℕ) (b : List ℕ) → i < n → j ≤ i → list_any (λ x. same_two x (take 7 (drop (7 * i) b))) (take j (first_chunks 7 n b)) ≡ repeats b j (7 * i)
repeats_of n i zero b l h = refl
repeats_of n i (suc j) b l h =
    let row = take 7 (drop (7 * i) b) in
    let rows = first_chunks 7 n b in
    let e = list_any_more (λ x. same_two x row) rows j [] (let z = length_chunks n b in omega arith) in
    let one = rw (add-one j) at e in
    one
    ∙ ap (λ (t : Bool). t || same_two (get_or rows j []) row) (repeats_of n i j b l (omega arith))
    ∙ ap (λ (x : List ℕ). repeats b j (7 * i) || same_two x row) (chunk_at n j b [] (omega arith))
    ∙ ap (λ (t : Bool). repeats b j (7 * i) || t) (same_of b (7 * j) (7 * i))

-- the rows of a body, and the one at an index
module _ (b : List ℕ) (rs : List (List ℕ)) (i : ℕ) (d : List ℕ) (are : rs ≡ first_chunks 7 (length b / 7) b) (l : i < length b / 7) where
  bytes_there : get_or rs i d ≡ take 7 (drop (7 * i) b)
  bytes_there = ap (λ (t : List (List ℕ)). get_or t i d) are ∙ chunk_at (length b / 7) i b d l

  pub row_there : row_at (get_or rs i d) 0 ≡ row_at b (7 * i)
  row_there = ap (λ (x : List ℕ). row_at x 0) bytes_there ∙ row_of b (7 * i)

  pub same_there : list_any (λ x. same_two x (get_or rs i d)) (take i rs) ≡ repeats b i (7 * i)
  same_there =
      ap (λ (t : List (List ℕ)). list_any (λ x. same_two x (get_or rs i d)) (take i t)) are
      ∙ ap (λ (r : List ℕ). list_any (λ x. same_two x r) (take i (first_chunks 7 (length b / 7) b))) bytes_there
      ∙ repeats_of (length b / 7) i i b l (omega arith)
