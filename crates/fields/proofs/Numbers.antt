-- Numbers and their bytes.
use Rattle.std.proofs.Common.{◌≡◌, ℕ, zero, suc, ◌+◌, ◌-◌, ◌*◌, ◌/◌, ◌%◌, ◌^◌, ◌<◌, true, ltb, List, [], ◌∷◌, length, get_or, drop, refl, ap, ◌∙◌, add-one, arith}
use Rattle.std.proofs.lemmas.Nat.{xor_lt}
use Rattle.std.proofs.lemmas.List.{drop_more, drop_all}
use Rattle.std.proofs.lemmas.Bool.{lt-ltb, and_from}
use Rattle.murmur.specs.Hash.{murmur, absorbed, downed, finished}
use Rattle.passes.specs.Bytes.{bytes, be2}
use Rattle.passes.specs.ByteLaws.{bytes_at}
use Rattle.fields.specs.Reading.{four, two, be4}

down_small : (h : ℕ) → h < 2 ^ 32 → downed 16 h < 2 ^ 32
unfolding downed
down_small h l = xor_lt 32 h (h / 2 ^ 16) l (omega arith)

finished_small : (h n : ℕ) → finished h n < 2 ^ 32
unfolding finished
finished_small h n = down_small _ (omega arith)

pub murmur_small : (bs : List ℕ) → murmur 0 bs < 2 ^ 32
murmur_small bs = finished_small (absorbed 0 bs) (length bs % 2 ^ 32)

low : (n : ℕ) → ltb (n % 256) 256 ≡ true
low n = lt-ltb (n % 256) 256 (omega arith)

pub be2_bytes : (n : ℕ) → bytes (be2 n) ≡ true
be2_bytes n = and_from _ _ (low (n / 256)) (and_from _ _ (low n) refl)

pub be4_bytes : (n : ℕ) → bytes (be4 n) ≡ true
be4_bytes n = and_from _ _ (low (n / 16777216)) (and_from _ _ (low (n / 65536)) (and_from _ _ (low (n / 256)) (and_from _ _ (low n) refl)))

-- n elements from place i on
abbrev pub listed : ℕ → ℕ → List ℕ → List ℕ
listed i zero xs = []
listed i (suc n) xs = get_or xs i 0 ∷ listed (suc i) n xs

pub all_listed : (n i : ℕ) (xs : List ℕ) → length xs ≡ i + n → drop i xs ≡ listed i n xs
all_listed zero i xs e = drop_all i xs (omega arith)
all_listed (suc n) i xs e = drop_more xs i 0 (omega arith) ∙ ap (λ (t : List ℕ). get_or xs i 0 ∷ t) (rw (add-one i) (all_listed n (suc i) xs (omega arith)))

pub four_small : (b : List ℕ) (i : ℕ) → bytes b ≡ true → four b i < 2 ^ 32
four_small b i h =
    let l0 = bytes_at b i h in
    let l1 = bytes_at b (i + 1) h in
    let l2 = bytes_at b (i + 2) h in
    let l3 = bytes_at b (i + 3) h in
    omega arith

pub two_small : (b : List ℕ) (i : ℕ) → bytes b ≡ true → two b i < 2 ^ 16
two_small b i h =
    let l0 = bytes_at b i h in
    let l1 = bytes_at b (i + 1) h in
    omega arith

-- the bytes of a number read from four bytes
pub be4_four : (b : List ℕ) (i n : ℕ) → bytes b ≡ true → n ≡ four b i → be4 n ≡ get_or b i 0 ∷ get_or b (i + 1) 0 ∷ get_or b (i + 2) 0 ∷ get_or b (i + 3) 0 ∷ []
be4_four b i n h e =
    let l0 = bytes_at b i h in
    let l1 = bytes_at b (i + 1) h in
    let l2 = bytes_at b (i + 2) h in
    let l3 = bytes_at b (i + 3) h in
    let p0 : n / 16777216 % 256 ≡ get_or b i 0 = omega arith in
    let p1 : n / 65536 % 256 ≡ get_or b (i + 1) 0 = omega arith in
    let p2 : n / 256 % 256 ≡ get_or b (i + 2) 0 = omega arith in
    let p3 : n % 256 ≡ get_or b (i + 3) 0 = omega arith in
    cc

pub be2_two : (b : List ℕ) (i n : ℕ) → bytes b ≡ true → n ≡ two b i → be2 n ≡ get_or b i 0 ∷ get_or b (i + 1) 0 ∷ []
be2_two b i n h e =
    let l0 = bytes_at b i h in
    let l1 = bytes_at b (i + 1) h in
    let p0 : n / 256 % 256 ≡ get_or b i 0 = omega arith in
    let p1 : n % 256 ≡ get_or b (i + 1) 0 = omega arith in
    cc

-- a body of four bytes
pub check_body : (b : List ℕ) (n : ℕ) → bytes b ≡ true → length b ≡ 4 → n ≡ four b 0 → b ≡ be4 n
check_body b n h l e =
    let s = all_listed 4 0 b l in
    let f = be4_four b 0 n h e in
    cc

-- the number that four bytes of a number give
pub four_bytes : (n : ℕ) → n < 2 ^ 32 → (n / 16777216 % 256) * 16777216 + (n / 65536 % 256) * 65536 + (n / 256 % 256) * 256 + n % 256 ≡ n
four_bytes n l =
    let a : n / 65536 ≡ n / 256 / 256 = omega arith in
    let b : n / 16777216 ≡ n / 256 / 256 / 256 = omega arith in
    let c : n / 256 / 256 / 256 < 256 = omega arith in
    let d : n / 16777216 % 256 ≡ n / 256 / 256 / 256 = omega arith in
    let e : n / 65536 % 256 ≡ n / 256 / 256 - 256 * (n / 256 / 256 / 256) = omega arith in
    let f : n / 256 % 256 ≡ n / 256 - 256 * (n / 256 / 256) = omega arith in
    let g : n % 256 ≡ n - 256 * (n / 256) = omega arith in
    omega arith

pub two_bytes : (n : ℕ) → n < 2 ^ 16 → (n / 256 % 256) * 256 + n % 256 ≡ n
two_bytes n l = omega arith
