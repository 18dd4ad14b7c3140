-- A field that was written is read back, wherever it stands in an input.
use Rattle.std.proofs.Common.{◌≡◌, ℕ, ◌+◌, ◌-◌, ◌*◌, ◌/◌, ◌%◌, ◌<◌, ◌≤◌, true, false, ◌&&◌, eqb, ltb, leb, List, [], ◌∷◌, ◌++◌, length, get_or, take, drop, Some, Ok, sym, refl, ap, ◌∙◌, add-zero, arith}
use Rattle.std.proofs.lemmas.List.{append_assoc, length-append, get_or-append-add, take_at, drop_at}
use Rattle.std.proofs.lemmas.Bool.{cond-true, cond-false, eq-eqb, le-ltb, le-leb, and_from}
use Rattle.murmur.specs.Hash.{murmur}
use Rattle.passes.specs.Bytes.{bytes, be2}
use Rattle.passes.specs.ByteLaws.{bytes_append}
use Rattle.fields.specs.Fields.{field, tag_at, header_at, body_at}
use Rattle.fields.specs.Reading.{field_at, four, be4, check_field, checked, check_at}
use Rattle.fields.proofs.Numbers.{murmur_small, four_bytes, be2_bytes, be4_bytes}

pub length_field : (tag : ℕ) (body : List ℕ) → length (field tag body) ≡ 3 + length body
length_field tag body = omega arith

-- a field is read wherever it stands in an input
module _ (front body rest : List ℕ) (tag : ℕ) where
  left : length (front ++ (field tag body ++ rest)) ≡ length front + (3 + length body + length rest)
  left = length-append front (field tag body ++ rest) ∙ ap (λ (n : ℕ). length front + n) (length-append (field tag body) rest ∙ ap (λ (n : ℕ). n + length rest) (length_field tag body))

  found : get_or (front ++ (field tag body ++ rest)) (length front) 0 ≡ tag
  found = ap (λ (n : ℕ). get_or (front ++ (field tag body ++ rest)) n 0) (sym (add-zero (length front))) ∙ get_or-append-add front (field tag body ++ rest) 0 0

  pub tag_back : tag_at (front ++ (field tag body ++ rest)) (length front) ≡ Some tag
  tag_back =
      let l = left in
      let bytes = front ++ (field tag body ++ rest) in
      let at = length front in
      cond-false (ltb (length bytes - at) 3) _ _ (le-ltb (length bytes - at) 3 (omega arith)) ∙ ap Some found

  pub header_back : length body < 65536 → header_at (front ++ (field tag body ++ rest)) (length front) tag ≡ Ok (record { tag = tag; place = length front; len = length body })
  header_back short =
      let l = left in
      let bytes = front ++ (field tag body ++ rest) in
      let at = length front in
      let a : get_or bytes (at + 1) 0 ≡ length body / 256 % 256 = get_or-append-add front (field tag body ++ rest) 1 0 in
      let b : get_or bytes (at + 2) 0 ≡ length body % 256 = get_or-append-add front (field tag body ++ rest) 2 0 in
      let n : get_or bytes (at + 1) 0 * 256 + get_or bytes (at + 2) 0 ≡ length body = omega arith in
      cond-false (ltb (length bytes - at) 3) _ _ (le-ltb (length bytes - at) 3 (omega arith))
      ∙ cond-true (eqb (get_or bytes at 0) tag) _ _ (eq-eqb (get_or bytes at 0) tag found)
      ∙ ap (λ (m : ℕ). Ok (record { tag = tag; place = at; len = m })) n

  pub body_back : body_at (front ++ (field tag body ++ rest)) (length front + 3) (record { tag = tag; place = length front; len = length body }) ≡ Ok body
  body_back =
      let l = left in
      let bytes = front ++ (field tag body ++ rest) in
      let three = tag ∷ (length body / 256 % 256) ∷ (length body % 256) ∷ [] in
      let same : bytes ≡ (front ++ three) ++ (body ++ rest) = sym (append_assoc front three (body ++ rest)) in
      let size : length (front ++ three) ≡ length front + 3 = length-append front three in
      let d : drop (length front + 3) bytes ≡ body ++ rest = ap (drop (length front + 3)) same ∙ drop_at (front ++ three) (body ++ rest) (length front + 3) size in
      cond-false (ltb (length bytes - (length front + 3)) (length body)) _ _ (le-ltb (length bytes - (length front + 3)) (length body) (omega arith))
      ∙ ap Ok (ap (take (length body)) d ∙ take_at body rest (length body) refl)

  pub field_back : (low high : ℕ) → low ≤ length body → length body ≤ high → high < 65536 → field_at tag low high (front ++ (field tag body ++ rest)) (length front) ≡ Ok body
  unfolding field_at
  field_back low high l h s =
      let bytes = front ++ (field tag body ++ rest) in
      let at = length front in
      let p = header_back (omega arith) in
      let t : (leb low (length body) && leb (length body) high) ≡ true = and_from _ _ (le-leb low (length body) l) (le-leb (length body) high h) in
      rw (p, t) body_back

pub check_back : (front : List ℕ) → check_at (checked front) (length front) ≡ Ok tt
unfolding check_at check_field
check_back front =
    let n = murmur 0 front in
    let body = be4 n in
    let small = murmur_small front in
    let p = field_back front body [] 0xFF 4 4 (omega arith) (omega arith) (omega arith) in
    let input = front ++ field 0xFF body in
    let t : take (length front) input ≡ front = take_at front (field 0xFF body) (length front) refl in
    let l : length input ≡ length front + 7 = length-append front (field 0xFF body) in
    let e : eqb (four body 0) (murmur 0 (take (length front) input)) ≡ true = eq-eqb (four body 0) (murmur 0 (take (length front) input)) (four_bytes n small ∙ ap (murmur 0) (sym t)) in
    let d : ltb (length front + 7) (length input) ≡ false = le-ltb (length front + 7) (length input) (omega arith) in
    rw (p, e, d)

pub check_tag : (front : List ℕ) → tag_at (checked front) (length front) ≡ Some 0xFF
unfolding check_field
check_tag front = tag_back front (be4 (murmur 0 front)) [] 0xFF

-- fields are made of bytes
pub field_bytes : (tag : ℕ) (body : List ℕ) → bytes (tag ∷ []) ≡ true → bytes body ≡ true → bytes (field tag body) ≡ true
field_bytes tag body t b = bytes_append (tag ∷ []) (be2 (length body) ++ body) t (bytes_append (be2 (length body)) body (be2_bytes (length body)) b)

pub check_bytes : (front : List ℕ) → bytes (check_field front) ≡ true
unfolding check_field
check_bytes front = field_bytes 0xFF (be4 (murmur 0 front)) refl (be4_bytes (murmur 0 front))

pub check_length : (front : List ℕ) → length (check_field front) ≡ 7
unfolding check_field
check_length front = refl
