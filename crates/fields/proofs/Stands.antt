-- A field that was read stands in the input as it is written.
use Rattle.std.proofs.Common.{◌≡◌, ℕ, ◌+◌, ◌/◌, ◌%◌, ◌≤◌, true, false, cond, ◌&&◌, eqb, ltb, leb, List, ◌∷◌, ◌++◌, length, get_or, take, drop, Ok, Err, Result, sym, refl, ap, ◌∙◌, ⊎_elim, arith}
use Rattle.std.proofs.lemmas.List.{append_assoc, length-append, length-take-le, take_at, take_all, take-append-drop, drop_more}
use Rattle.std.proofs.lemmas.Bool.{cases_Bool, cond-true, cond-false, ltb-false, eqb-true, leb-true, and_parts}
use Rattle.refusals.specs.declared.Reason.{Reason}
use Rattle.refusals.specs.declared.Reason.TheVariants.{BadLength, WrongCheck, BytesLeft}
use Rattle.refusals.specs.declared.Refusal.{Refusal}
use Rattle.refusals.specs.Numbers.{refused}
use Rattle.murmur.specs.Hash.{murmur}
use Rattle.passes.specs.Bytes.{bytes}
use Rattle.passes.specs.ByteLaws.{bytes_at, bytes_take, bytes_drop}
use Rattle.fields.specs.declared.Header.{Header}
use Rattle.fields.specs.Fields.{field, header_at, body_at}
use Rattle.fields.specs.Reading.{then, in_field, field_at, content_at, four, check_field, checked, check_in, check_at}
use Rattle.fields.proofs.Numbers.{check_body}
use Rattle.fields.proofs.Steps.{never, Headed, headed, Bodied, bodied}
use Rattle.fields.proofs.Readback.{length_field}

pub then_ok : {A B : Type 0} (t : Result A Refusal) (f : A → Result B Refusal) (b : B) → then t f ≡ Ok b → (a : A) × (t ≡ Ok a) × (f a ≡ Ok b)
then_ok (Ok a) f b e = (a, refl, e)
then_ok (Err x) f b e = absurd (never x b e)

pub in_field_ok : {A : Type 0} (tag at : ℕ) (r : Result A Reason) (a : A) → in_field tag at r ≡ Ok a → r ≡ Ok a
in_field_ok tag at (Ok x) a e = let q : x ≡ a = cc in ap Ok q
in_field_ok tag at (Err r) a e = absurd (never (refused r tag at) a e)

-- a field that was read stands in the input, behind what was read before
pub record Stands (due low high : ℕ) (input : List ℕ) (at : ℕ) (b : List ℕ) : Type 0 where
  pub inside : at + (3 + length b) ≤ length input
  pub long : low ≤ length b
  pub short : length b ≤ high
  pub real : bytes b ≡ true
  pub written : take (at + (3 + length b)) input ≡ take at input ++ field due b

module _ (due low high : ℕ) (input : List ℕ) (at : ℕ) (b : List ℕ) (real : bytes input ≡ true) (h : Header) where
  pub stands_from : Headed input at due h → Bodied input (at + 3) h b → low ≤ h.len → h.len ≤ high → Stands due low high input at b
  stands_from p q l g =
      let n = length b in
      let room = p.there in
      let more = q.there in
      let size = q.size in
      let len = p.len_is in
      let d0 = drop_more input at 0 (omega arith) in
      let d1 = drop_more input (at + 1) 0 (omega arith) in
      let up : at + 1 + 1 ≡ at + 2 = omega arith in
      let on : at + 2 + 1 ≡ at + 3 = omega arith in
      let d2 : drop (at + 1 + 1) input ≡ get_or input (at + 2) 0 ∷ drop (at + 3) input = ap (λ (k : ℕ). drop k input) up ∙ drop_more input (at + 2) 0 (omega arith) ∙ ap (λ (k : ℕ). get_or input (at + 2) 0 ∷ drop k input) on in
      let b1 = bytes_at input (at + 1) real in
      let b2 = bytes_at input (at + 2) real in
      let hi : get_or input (at + 1) 0 ≡ n / 256 % 256 = omega arith in
      let lo : get_or input (at + 2) 0 ≡ n % 256 = omega arith in
      let body = q.is in
      let rest = drop h.len (drop (at + 3) input) in
      let behind : drop (at + 3) input ≡ b ++ rest = sym (take-append-drop h.len (drop (at + 3) input)) ∙ ap (λ (t : List ℕ). t ++ rest) (sym body) in
      let tag_there = p.found in
      let field_there : drop at input ≡ field due b ++ rest = cc in
      let whole : input ≡ (take at input ++ field due b) ++ rest = sym (take-append-drop at input) ∙ ap (λ (t : List ℕ). take at input ++ t) field_there ∙ sym (append_assoc (take at input) (field due b) rest) in
      let front : length (take at input) ≡ at = length-take-le at input (omega arith) in
      let all : length (take at input ++ field due b) ≡ at + (3 + n) = length-append (take at input) (field due b) ∙ ap (λ (k : ℕ). k + length (field due b)) front ∙ ap (λ (k : ℕ). at + k) (length_field due b) in
      record {
        inside = omega arith;
        long = omega arith;
        short = omega arith;
        real = ap bytes body ∙ bytes_take h.len (drop (at + 3) input) (bytes_drop (at + 3) input real);
        written = ap (take (at + (3 + n))) whole ∙ take_at (take at input ++ field due b) rest (at + (3 + n)) all;
      }

pub field_stands : (due low high : ℕ) (input : List ℕ) (at : ℕ) (b : List ℕ) → bytes input ≡ true → field_at due low high input at ≡ Ok b → Stands due low high input at b
unfolding field_at
field_stands due low high input at b real e =
    let go : Header → Result (List ℕ) Refusal = λ h. cond (leb low h.len && leb h.len high) (body_at input (at + 3) h) (Err (refused BadLength due at)) in
    let t = then_ok (header_at input at due) go b e in
    let h = t.0 in
    ⊎_elim
    (λ (m : (leb low h.len && leb h.len high) ≡ true).
    let p = and_parts (leb low h.len) (leb h.len high) m in
    let q = sym (cond-true (leb low h.len && leb h.len high) _ _ m) ∙ t.2 in
    stands_from due low high input at b real h (headed input at due h t.1) (bodied input (at + 3) h b q) (leb-true low h.len p.0) (leb-true h.len high p.1))
    (λ (m : (leb low h.len && leb h.len high) ≡ false). absurd (never (refused BadLength due at) b (sym (cond-false (leb low h.len && leb h.len high) _ _ m) ∙ t.2)))
    (cases_Bool (leb low h.len && leb h.len high))

-- what a content that was found is found in
pub content_stands : {A : Type 0} (found : List ℕ → Result A Reason) (due low high : ℕ) (input : List ℕ) (at : ℕ) (a : A) → bytes input ≡ true → content_at found due low high input at ≡ Ok a → (b : List ℕ) × Stands due low high input at b × (found b ≡ Ok a)
content_stands found due low high input at a real e =
    let t = then_ok (field_at due low high input at) (λ b. in_field due at (found b)) a e in
    (t.0, field_stands due low high input at t.0 real t.1, in_field_ok due at (found t.0) a t.2)

-- the check ends the input, and is that of the bytes before it
check_parts : (input : List ℕ) (at : ℕ) (b : List ℕ) (u : Unit {0}) → check_in input at b ≡ Ok u → (murmur 0 (take at input) ≡ four b 0) × (length input ≤ at + 7)
check_parts input at b u e =
    ⊎_elim
    (λ (m : eqb (four b 0) (murmur 0 (take at input)) ≡ true).
    let f = sym (cond-true (eqb (four b 0) (murmur 0 (take at input))) _ _ m) ∙ e in
    ⊎_elim
    (λ (n : ltb (at + 7) (length input) ≡ true). absurd (never (refused BytesLeft 0 (at + 7)) u (sym (cond-true (ltb (at + 7) (length input)) _ _ n) ∙ f)))
    (λ (n : ltb (at + 7) (length input) ≡ false). (sym (eqb-true (four b 0) (murmur 0 (take at input)) m), ltb-false (at + 7) (length input) n))
    (cases_Bool (ltb (at + 7) (length input))))
    (λ (m : eqb (four b 0) (murmur 0 (take at input)) ≡ false). absurd (never (refused WrongCheck 0xFF at) u (sym (cond-false (eqb (four b 0) (murmur 0 (take at input))) _ _ m) ∙ e)))
    (cases_Bool (eqb (four b 0) (murmur 0 (take at input))))

pub check_stands : (input : List ℕ) (at : ℕ) (u : Unit {0}) → bytes input ≡ true → check_at input at ≡ Ok u → checked (take at input) ≡ input
unfolding check_at check_field
check_stands input at u real e =
    let t = then_ok (field_at 0xFF 4 4 input at) (check_in input at) u e in
    let b = t.0 in
    let s = field_stands 0xFF 4 4 input at b real t.1 in
    let p = check_parts input at b u t.2 in
    let l : length b ≡ 4 = omega (arith, s.long, s.short) in
    let body = check_body b (murmur 0 (take at input)) s.real l p.0 in
    let whole = take_all (at + (3 + length b)) input (omega (arith, p.1)) in
    ap (λ (t : List ℕ). take at input ++ field 0xFF t) (sym body) ∙ sym s.written ∙ whole
