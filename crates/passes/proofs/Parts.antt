-- Parts of written forms.
use Rattle.std.proofs.Common.{◌≡◌, ℕ, zero, suc, ◌+◌, ◌-◌, ◌%◌, ◌<◌, ◌≤◌, min, max, List, [], ◌∷◌, ◌++◌, length, get_or, take, drop, replicate, sym, refl, ap, ◌∙◌, ⊎_elim, arith, length-take}
use borrow.Rule.Slice.PartMut.{put_mid}
use native.Mathlib.Nat.{sub-zero}
use Rattle.std.proofs.lemmas.List.{take_at, take_all, drop-drop, drop-replicate, nil_from_length}
use Rattle.std.proofs.lemmas.Bool.{cases_lt}
use Rattle.passes.specs.Bytes.{be2, firsts}
use Rattle.passes.specs.Forms.{chip_form}

pub firsts_take : (k : ℕ) (xs : List ℕ) → k ≤ length xs → ((i : ℕ) → get_or xs i 0 < 256) → firsts k xs ≡ take k xs
firsts_take zero xs l b = refl
firsts_take (suc k) [] l b = absurd (omega arith)
firsts_take (suc k) (x ∷ xs) l b =
    let low : x < 256 = b 0 in
    let e : x % 256 ≡ x = omega arith in
    let rec = firsts_take k xs (omega arith) (λ i. b (suc i)) in
    cc

-- as many as there are, whatever follows
pub firsts_front : (xs ys : List ℕ) → ((i : ℕ) → get_or xs i 0 < 256) → firsts (length xs) (xs ++ ys) ≡ xs
firsts_front [] ys b = refl
firsts_front (x ∷ xs) ys b =
    let low : x < 256 = b 0 in
    let e : x % 256 ≡ x = omega arith in
    let rec = firsts_front xs ys (λ i. b (suc i)) in
    cc

-- three bytes in front, and a part behind them
pub behind_3 : (a b c : ℕ) (m out : List ℕ) (k : ℕ) → put_mid 3 (3 + k - 3) ((a ∷ b ∷ c ∷ []) ++ drop 3 out) m ≡ a ∷ b ∷ c ∷ (m ++ drop (3 + k) out)
behind_3 a b c m out k =
    let n = 3 + k - 3 in
    let e : n ≡ k = omega arith in
    ap (λ (t : List ℕ). a ∷ b ∷ c ∷ (m ++ t)) (ap (λ (j : ℕ). drop j (drop 3 out)) e ∙ drop-drop k 3 out)

take_3 : (a b c n t : ℕ) (xs : List ℕ) → t ≡ 3 + n → take t (a ∷ b ∷ c ∷ xs) ≡ a ∷ b ∷ c ∷ take n xs
take_3 a b c n t xs e = let s : t ≡ suc (suc (suc n)) = omega arith in rw s

-- the serial's part of a form written over zeros
serial_part : (serial m : List ℕ) (k : ℕ) → ((i : ℕ) → get_or serial i 0 < 256) → k ≡ min (length serial) 20 → m ≡ take k serial → take (max k 1) (m ++ drop (3 + k) (replicate 23 0)) ≡ firsts (max k 1) serial
serial_part serial m k low e h =
    ⊎_elim
    (λ (z : length serial < 1).
    let none = nil_from_length serial (omega arith) in
    let z0 : k ≡ 0 = omega arith in
    rw (h, z0, none))
    (λ (z : 1 ≤ length serial).
    let one : max k 1 ≡ k = omega arith in
    let size : length m ≡ k = ap length h ∙ simp length-take (omega arith) in
    rw one (take_at m _ k size ∙ h ∙ sym (firsts_take k serial (omega arith) low)))
    (cases_lt (length serial) 1)

pub chip_written : (a b c : ℕ) (serial m : List ℕ) (k n : ℕ) → ((i : ℕ) → get_or serial i 0 < 256) → k ≡ min (length serial) 20 → n ≡ max k 1 → m ≡ take (k - 0) serial → take (min 23 (3 + n)) (put_mid 3 (3 + k - 3) ((a ∷ b ∷ c ∷ []) ++ drop 3 (replicate 23 0)) m) ≡ a ∷ b ∷ c ∷ firsts (max (min (length serial) 20) 1) serial
chip_written a b c serial m k n low e f h =
    ap (take (min 23 (3 + n))) (behind_3 a b c m (replicate 23 0) k)
    ∙ take_3 a b c n (min 23 (3 + n)) _ (omega arith)
    ∙ ap (λ (xs : List ℕ). a ∷ b ∷ c ∷ xs)
    (ap (λ (j : ℕ). take j (m ++ drop (3 + k) (replicate 23 0))) f
    ∙ serial_part serial m k low e (h ∙ ap (λ (j : ℕ). take j serial) (sub-zero k))
    ∙ ap (λ (j : ℕ). firsts (max j 1) serial) e)

-- the form of a serial that fits
pub chip_plain : (issuer : ℕ) (serial : List ℕ) → ((i : ℕ) → get_or serial i 0 < 256) → 1 ≤ length serial → length serial ≤ 20 → chip_form issuer serial ≡ 0x43 ∷ (be2 issuer ++ serial)
chip_plain issuer serial low l h =
    let n : max (min (length serial) 20) 1 ≡ length serial = omega arith in
    ap (λ (xs : List ℕ). 0x43 ∷ (be2 issuer ++ xs)) (ap (λ (j : ℕ). firsts j serial) n ∙ firsts_take (length serial) serial (omega arith) low ∙ take_all (length serial) serial (omega arith))

-- a serial copied over zeros
pub over_zeros : (serial part : List ℕ) (k : ℕ) → part ≡ serial → k ≡ length serial → part ++ drop (k - 0) (replicate 20 0) ≡ serial ++ replicate (20 - length serial) 0
over_zeros serial part k e l = let z : k - 0 ≡ length serial = omega arith in rw (e, z) (ap (λ (xs : List ℕ). serial ++ xs) (drop-replicate (length serial) 20 0))

pub stored_plain : (issuer : ℕ) (serial : List ℕ) → ((i : ℕ) → get_or serial i 0 < 256) → 1 ≤ length serial → length serial ≤ 20 → chip_form issuer (firsts (1 + (length serial - 1) % 20) (serial ++ replicate (20 - length serial) 0)) ≡ 0x43 ∷ (be2 issuer ++ serial)
stored_plain issuer serial low l h =
    let n : 1 + (length serial - 1) % 20 ≡ length serial = omega arith in
    ap (chip_form issuer) (ap (λ (j : ℕ). firsts j (serial ++ replicate (20 - length serial) 0)) n ∙ firsts_front serial (replicate (20 - length serial) 0) low) ∙ chip_plain issuer serial low l h
