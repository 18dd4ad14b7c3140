-- The lawful shapes of a written form, and that every identifier's form has one.
use Rattle.std.specs.Prelude.{◌≡◌, ℕ, zero, suc, ◌+◌, ◌/◌, ◌%◌, ◌≤◌, min, max, Bool, true, false, cond, ◌&&◌, List, [], ◌∷◌, ◌++◌, length, ◌==◌, nat_le, nat_lt, slice_index, refl}
use Rattle.std.proofs.Common.{ap, arith}
use Rattle.std.proofs.lemmas.Bool.{lt-ltb, and_from}
use Rattle.passes.specs.declared.tag.Tag.{Tag}
use Rattle.passes.specs.declared.chip.ChipPass.{ChipPass}
use Rattle.passes.specs.Bytes.{bytes, be2, be8, firsts}
use Rattle.passes.specs.Forms.{tag_form, chip_form, stored_form}

-- a window tag has 11 bytes, a chip pass 4 to 23
pub data Lawful : List ℕ → Type 0 where
  tag : {rest : List ℕ} → length rest ≡ 10 → bytes rest ≡ true → Lawful (0x54 ∷ rest)
  chip : {rest : List ℕ} → 3 ≤ length rest → length rest ≤ 22 → bytes rest ≡ true → Lawful (0x43 ∷ rest)

-- a form of n bytes, 4 or more, may begin with this byte
abbrev pub begins : ℕ → ℕ → Bool
begins kind n = cond (kind == 0x54) (n == 11) (cond (kind == 0x43) (nat_le n 23) false)

-- the same as a test
abbrev pub lawful : List ℕ → Bool
lawful xs = (nat_le 4 (length xs) && begins (slice_index xs 0) (length xs)) && bytes xs

low : (n : ℕ) → nat_lt (n % 256) 256 ≡ true
low n = lt-ltb (n % 256) 256 (omega arith)

pub firsts_bytes : (k : ℕ) (xs : List ℕ) → bytes (firsts k xs) ≡ true
firsts_bytes zero xs = refl
firsts_bytes (suc k) [] = firsts_bytes k []
firsts_bytes (suc k) (x ∷ xs) = and_from _ _ (low x) (firsts_bytes k xs)

pub length_firsts : (k : ℕ) (xs : List ℕ) → length (firsts k xs) ≡ k
length_firsts zero xs = refl
length_firsts (suc k) [] = ap suc (length_firsts k [])
length_firsts (suc k) (x ∷ xs) = ap suc (length_firsts k xs)

be2_then : (n : ℕ) (xs : List ℕ) → bytes xs ≡ true → bytes (be2 n ++ xs) ≡ true
be2_then n xs h = and_from _ _ (low (n / 256)) (and_from _ _ (low n) h)

be8_bytes : (n : ℕ) → bytes (be8 n) ≡ true
be8_bytes n = and_from _ _ (low (n / 72057594037927936)) (and_from _ _ (low (n / 281474976710656)) (and_from _ _ (low (n / 1099511627776)) (and_from _ _ (low (n / 4294967296)) (and_from _ _ (low (n / 16777216)) (and_from _ _ (low (n / 65536)) (and_from _ _ (low (n / 256)) (and_from _ _ (low n) refl)))))))

pub tag_lawful : (t : Tag) → Lawful (tag_form t)
tag_lawful t = tag refl (be2_then t.issuer (be8 t.number) (be8_bytes t.number))

pub chip_lawful : (issuer : ℕ) (serial : List ℕ) → Lawful (chip_form issuer serial)
chip_lawful issuer serial =
    let k = max (min (length serial) 20) 1 in
    let e = length_firsts k serial in
    chip (omega arith) (omega arith) (be2_then issuer (firsts k serial) (firsts_bytes k serial))

pub stored_lawful : (c : ChipPass) → Lawful (stored_form c)
stored_lawful c = chip_lawful c.issuer (firsts (1 + c.n % 20) c.serial)

pub lawful_length : {xs : List ℕ} → Lawful xs → (4 ≤ length xs) × (length xs ≤ 23)
lawful_length (tag e b) = (omega arith, omega arith)
lawful_length (chip l h b) = (omega arith, omega arith)
