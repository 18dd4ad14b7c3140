-- The test of a lawful shape decides it; and the pass that a lawful form is read as.
use Rattle.std.proofs.Common.{◌≡◌, ℕ, zero, suc, ◌+◌, ◌-◌, ◌*◌, ◌/◌, ◌%◌, ◌<◌, ◌≤◌, Bool, true, false, cond, ◌&&◌, eqb, ltb, leb, List, [], ◌∷◌, ◌++◌, length, get_or, take, drop, Some, None, Ok, Err, Option, Result, Decides, sym, refl, ap, ◌∙◌, ⊎_elim, add-one, arith}
use Rattle.std.proofs.lemmas.List.{drop_more, drop_all, take_rest, length-drop, get_or-drop}
use Rattle.std.proofs.lemmas.Bool.{and_parts, and_from, eqb-true, leb-true, eq-eqb, ne_eqb, le-leb, cases_eq, cond-false, both_ways, true≢false}
use Rattle.std.proofs.lemmas.Option.{none-some}
use Rattle.std.specs.Result.{result_ok}
use Rattle.refusals.specs.declared.Reason.{Reason}
use Rattle.passes.specs.declared.kind.PassKind.{PassKind}
use Rattle.passes.specs.declared.kind.PassKind.TheVariants.{Tag, Chip}
use Rattle.passes.specs.Kinds.{NamesKind, kind_of}
use Rattle.passes.specs.Bytes.{bytes, be2, be8}
use Rattle.passes.specs.Forms.{chip_form}
use Rattle.passes.proofs.Parts.{chip_plain}
use Rattle.passes.specs.Lawful.{Lawful, tag, chip, begins, lawful}

from_test : (xs : List ℕ) → lawful xs ≡ true → Lawful xs
from_test [] e = absurd (true≢false (sym e))
from_test (x ∷ xs) e =
    let n = suc (length xs) in
    let p = and_parts (leb 4 n && begins x n) (ltb x 256 && bytes xs) e in
    let q = and_parts (leb 4 n) (begins x n) p.0 in
    let b = (and_parts (ltb x 256) (bytes xs) p.1).1 in
    let l = leb-true 4 n q.0 in
    ⊎_elim
    (λ (t : x ≡ 0x54).
    let h = eqb-true n 11 (ap (λ (k : ℕ). begins k n) (sym t) ∙ q.1) in
    rw t (tag {rest = xs} (omega arith) b))
    (λ (t : x ≡ 0x54 → ⊥).
    ⊎_elim
    (λ (u : x ≡ 0x43).
    let h = leb-true n 23 (ap (λ (k : ℕ). begins k n) (sym u) ∙ q.1) in
    rw u (chip {rest = xs} (omega arith) (omega arith) b))
    (λ (u : x ≡ 0x43 → ⊥).
    let none : begins x n ≡ false = cond-false (eqb x 0x54) (eqb n 11) (cond (eqb x 0x43) (leb n 23) false) (ne_eqb x 0x54 t) ∙ cond-false (eqb x 0x43) (leb n 23) false (ne_eqb x 0x43 u) in
    absurd (both_ways (begins x n) none q.1))
    (cases_eq x 0x43))
    (cases_eq x 0x54)

to_test : (xs : List ℕ) → Lawful xs → lawful xs ≡ true
to_test xs (tag {rest} e b) = and_from (leb 4 (suc (length rest)) && eqb (suc (length rest)) 11) (bytes rest) (and_from (leb 4 (suc (length rest))) (eqb (suc (length rest)) 11) (le-leb 4 (suc (length rest)) (omega arith)) (eq-eqb (suc (length rest)) 11 (ap suc e))) b
to_test xs (chip {rest} l h b) = and_from (leb 4 (suc (length rest)) && leb (suc (length rest)) 23) (bytes rest) (and_from (leb 4 (suc (length rest))) (leb (suc (length rest)) 23) (le-leb 4 (suc (length rest)) (omega arith)) (le-leb (suc (length rest)) 23 (omega arith))) b

and_true_right : (b : Bool) → (b && true) ≡ b
and_true_right true = refl
and_true_right false = refl

pub decides_lawful : (xs : List ℕ) → Decides (lawful xs) (Lawful xs)
decides_lawful xs = (from_test xs, to_test xs)

pub lawful_long : (xs : List ℕ) → 4 ≤ length xs → bytes xs ≡ true → begins (get_or xs 0 0) (length xs) ≡ lawful xs
lawful_long xs l b = rw (le-leb 4 (length xs) l, b) (sym (and_true_right (begins (get_or xs 0 0) (length xs))))

-- n elements from place i on
abbrev listed : ℕ → ℕ → List ℕ → List ℕ
listed i zero xs = []
listed i (suc n) xs = get_or xs i 0 ∷ listed (suc i) n xs

all_listed : (n i : ℕ) (xs : List ℕ) → length xs ≡ i + n → drop i xs ≡ listed i n xs
all_listed zero i xs e = drop_all i xs (omega arith)
all_listed (suc n) i xs e = drop_more xs i 0 (omega arith) ∙ ap (λ (t : List ℕ). get_or xs i 0 ∷ t) (rw (add-one i) (all_listed n (suc i) xs (omega arith)))

module _ (xs : List ℕ) (low : (i : ℕ) → get_or xs i 0 < 256) where
  issuer_back : (i : ℕ) → i ≡ get_or xs 1 0 * 256 + get_or xs 2 0 → be2 i ≡ get_or xs 1 0 ∷ get_or xs 2 0 ∷ []
  issuer_back i e =
      let l1 = low 1 in
      let l2 = low 2 in
      let p : i / 256 % 256 ≡ get_or xs 1 0 = omega arith in
      let q : i % 256 ≡ get_or xs 2 0 = omega arith in
      cc

  pub tag_back : (i n : ℕ) → length xs ≡ 11 → get_or xs 0 0 ≡ 84 → i ≡ get_or xs 1 0 * 256 + get_or xs 2 0 → n ≡ get_or xs 3 0 * 72057594037927936 + get_or xs 4 0 * 281474976710656 + get_or xs 5 0 * 1099511627776 + get_or xs 6 0 * 4294967296 + get_or xs 7 0 * 16777216 + get_or xs 8 0 * 65536 + get_or xs 9 0 * 256 + get_or xs 10 0 → 0x54 ∷ (be2 i ++ be8 n) ≡ xs
  tag_back i n l t ei en =
      let l3 = low 3 in
      let l4 = low 4 in
      let l5 = low 5 in
      let l6 = low 6 in
      let l7 = low 7 in
      let l8 = low 8 in
      let l9 = low 9 in
      let l10 = low 10 in
      let p3 : n / 72057594037927936 % 256 ≡ get_or xs 3 0 = omega arith in
      let p4 : n / 281474976710656 % 256 ≡ get_or xs 4 0 = omega arith in
      let p5 : n / 1099511627776 % 256 ≡ get_or xs 5 0 = omega arith in
      let p6 : n / 4294967296 % 256 ≡ get_or xs 6 0 = omega arith in
      let p7 : n / 16777216 % 256 ≡ get_or xs 7 0 = omega arith in
      let p8 : n / 65536 % 256 ≡ get_or xs 8 0 = omega arith in
      let p9 : n / 256 % 256 ≡ get_or xs 9 0 = omega arith in
      let p10 : n % 256 ≡ get_or xs 10 0 = omega arith in
      let b = issuer_back i ei in
      let s = all_listed 11 0 xs l in
      cc

  pub chip_back : (i : ℕ) (serial : List ℕ) → 4 ≤ length xs → length xs ≤ 23 → get_or xs 0 0 ≡ 67 → i ≡ get_or xs 1 0 * 256 + get_or xs 2 0 → serial ≡ take (length xs - 3) (drop 3 xs) → chip_form i serial ≡ xs
  chip_back i serial l h t e s =
      let b = issuer_back i e in
      let r = s ∙ take_rest xs 3 in
      let size : length serial ≡ length xs - 3 = ap length r ∙ length-drop 3 xs in
      let low_serial : (j : ℕ) → get_or serial j 0 < 256 = λ j. rw r (rw (get_or-drop 3 xs j 0) (low (3 + j))) in
      let d0 = drop_more xs 0 0 (omega arith) in
      let d1 = drop_more xs 1 0 (omega arith) in
      let d2 = drop_more xs 2 0 (omega arith) in
      let p = chip_plain i serial low_serial (omega arith) (omega arith) in
      cc

tag_no_chip : ◌≡◌ {A = Option PassKind} (Some Tag) (Some Chip) → ⊥
tag_no_chip e = cc

-- a byte that names the chip passes
pub chip_named : (n : ℕ) (r : Result PassKind Reason) → NamesKind n r → Some Chip ≡ result_ok r → n ≡ 67
chip_named n (Err x) h e = absurd (none-some Chip (sym e))
chip_named n (Ok kind) h e =
    let named : kind_of n ≡ Some Chip = h ∙ sym e in
    let chip_or_none : Option PassKind = cond (eqb n 67) (Some Chip) None in
    ⊎_elim
    (λ (t : n ≡ 67). t)
    (λ (t : n ≡ 67 → ⊥).
    ⊎_elim
    (λ (u : n ≡ 84). absurd (tag_no_chip (sym (ap kind_of u) ∙ named)))
    (λ (u : n ≡ 84 → ⊥). absurd (none-some Chip (sym (cond-false (eqb n 67) (Some Chip) None (ne_eqb n 67 t)) ∙ sym (cond-false (eqb n 84) (Some Tag) chip_or_none (ne_eqb n 84 u)) ∙ named)))
    (cases_eq n 84))
    (cases_eq n 67)
