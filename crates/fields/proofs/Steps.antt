-- Reading a field, step by step.
use Rattle.std.proofs.Common.{◌≡◌, ℕ, ◌+◌, ◌-◌, ◌*◌, ◌<◌, ◌≤◌, true, false, ◌&&◌, eqb, ltb, leb, ◌⊎◌, List, length, get_or, take, drop, is_ok, Ok, Err, Result, sym, ap, ◌∙◌, ⊎_elim, arith, length-drop, length-take, MatchResult}
use Rattle.std.proofs.lemmas.Bool.{cases_Bool, cond-true, cond-false, ltb-false, ne_eqb, eq-eqb, lt-ltb, le-ltb, eqb-true, le-leb, lt-leb, and_from, and_left, and_right}
use Rattle.refusals.specs.declared.Reason.{Reason}
use Rattle.refusals.specs.declared.Reason.TheVariants.{CutShort, WrongTag, BadLength, WrongCheck, BytesLeft}
use Rattle.refusals.specs.declared.Refusal.{Refusal}
use Rattle.refusals.specs.Numbers.{refused}
use Rattle.murmur.specs.Hash.{murmur}
use Rattle.fields.specs.declared.Header.{Header}
use Rattle.fields.specs.Fields.{header_at, body_at, stepped}
use Rattle.fields.specs.Reading.{in_field, field_at, content_at, four, check_at}

pub never : {A E : Type 0} (e : E) (a : A) → ◌≡◌ {A = Result A E} (Err e) (Ok a) → ⊥
never e a h = let z : ◌≡◌ {A = ℕ} 0 1 = cc in omega arith

-- what a header that was read says
pub record Headed (input : List ℕ) (at due : ℕ) (h : Header) : Type 0 where
  pub there : 3 ≤ length input - at
  pub found : get_or input at 0 ≡ due
  pub tag_is : h.tag ≡ due
  pub place_is : h.place ≡ at
  pub len_is : h.len ≡ get_or input (at + 1) 0 * 256 + get_or input (at + 2) 0

pub headed : (input : List ℕ) (at due : ℕ) (h : Header) → header_at input at due ≡ Ok h → Headed input at due h
headed input at due h e =
    let big : Header = record { tag = due; place = at; len = get_or input (at + 1) 0 * 256 + get_or input (at + 2) 0 } in
    ⊎_elim
    (λ (a : ltb (length input - at) 3 ≡ true). absurd (never (refused CutShort due at) h (sym (cond-true (ltb (length input - at) 3) _ _ a) ∙ e)))
    (λ (a : ltb (length input - at) 3 ≡ false).
    let f = sym (cond-false (ltb (length input - at) 3) _ _ a) ∙ e in
    ⊎_elim
    (λ (b : eqb (get_or input at 0) due ≡ true).
    let g = sym (cond-true (eqb (get_or input at 0) due) _ _ b) ∙ f in
    let q : big ≡ h = cc in
    record {
      there = ltb-false (length input - at) 3 a;
      found = eqb-true (get_or input at 0) due b;
      tag_is = sym (ap (λ (x : Header). x.tag) q);
      place_is = sym (ap (λ (x : Header). x.place) q);
      len_is = sym (ap (λ (x : Header). x.len) q);
    })
    (λ (b : eqb (get_or input at 0) due ≡ false). absurd (never (refused WrongTag due at) h (sym (cond-false (eqb (get_or input at 0) due) _ _ b) ∙ f)))
    (cases_Bool (eqb (get_or input at 0) due)))
    (cases_Bool (ltb (length input - at) 3))

-- what a body that was read is
pub record Bodied (input : List ℕ) (at : ℕ) (h : Header) (b : List ℕ) : Type 0 where
  pub there : h.len ≤ length input - at
  pub is : b ≡ take h.len (drop at input)
  pub size : length b ≡ h.len

pub bodied : (input : List ℕ) (at : ℕ) (h : Header) (b : List ℕ) → body_at input at h ≡ Ok b → Bodied input at h b
bodied input at h b e =
    ⊎_elim
    (λ (a : ltb (length input - at) h.len ≡ true). absurd (never (refused CutShort h.tag h.place) b (sym (cond-true (ltb (length input - at) h.len) _ _ a) ∙ e)))
    (λ (a : ltb (length input - at) h.len ≡ false).
    let f = sym (cond-false (ltb (length input - at) h.len) _ _ a) ∙ e in
    let q : take h.len (drop at input) ≡ b = cc in
    let l = ltb-false (length input - at) h.len a in
    record { there = l; is = sym q; size = ap length (sym q) ∙ simp (length-take, length-drop) (omega arith) })
    (cases_Bool (ltb (length input - at) h.len))

-- one reading: the header, the length, the body behind it
module _ (due low high at : ℕ) (input : List ℕ) where
  pub no_header : (e : Refusal) → header_at input at due ≡ Err e → field_at due low high input at ≡ Err e
  unfolding field_at
  no_header e p = rw p

  module _ (h : Header) (p : header_at input at due ≡ Ok h) where
    pub no_length : (h.len < low) ⊎ ((low ≤ h.len) × (high < h.len)) → field_at due low high input at ≡ Err (refused BadLength due h.place)
    unfolding field_at
    no_length m =
        let q = (headed input at due h p).place_is in
        let t : (leb low h.len && leb h.len high) ≡ false =
        ⊎_elim
        (λ (l : h.len < low). and_left (leb low h.len) (leb h.len high) (lt-leb low h.len l))
        (λ (l : (low ≤ h.len) × (high < h.len)). and_right (leb low h.len) (leb h.len high) (lt-leb h.len high l.1))
        m in
        rw (p, t, q)

    pub field_read : {B : Type 0} (now_of : B → List ℕ) (r : Result B Refusal) (at1 at2 : ℕ) (input1 : List ℕ) → low ≤ h.len → h.len ≤ high → at1 ≡ at + 3 → input1 ≡ input → MatchResult r (λ b. body_at input1 at1 h ≡ Ok (now_of b)) (λ e. body_at input1 at1 h ≡ Err e) → at2 ≡ stepped (is_ok r) at1 h.len → MatchResult r (λ b. (field_at due low high input at ≡ Ok (now_of b)) × (at2 ≡ at + (3 + length (now_of b))) × (low ≤ length (now_of b)) × (length (now_of b) ≤ high)) (λ e. field_at due low high input at ≡ Err e)
    unfolding field_at
    field_read now_of (Ok b) at1 at2 input1 l g a i q w =
        let moved : body_at input (at + 3) h ≡ Ok (now_of b) = sym (ap (λ (n : ℕ). body_at input1 n h) a ∙ ap (λ (t : List ℕ). body_at t (at + 3) h) i) ∙ q in
        let n = (bodied input (at + 3) h (now_of b) moved).size in
        let t : (leb low h.len && leb h.len high) ≡ true = and_from _ _ (le-leb low h.len l) (le-leb h.len high g) in
        (rw (p, t) moved, omega arith, omega arith, omega arith)
    field_read now_of (Err e) at1 at2 input1 l g a i q w =
        let moved : body_at input (at + 3) h ≡ Err e = sym (ap (λ (n : ℕ). body_at input1 n h) a ∙ ap (λ (t : List ℕ). body_at t (at + 3) h) i) ∙ q in
        let t : (leb low h.len && leb h.len high) ≡ true = and_from _ _ (le-leb low h.len l) (le-leb h.len high g) in
        rw (p, t) moved

-- what is found in a body
module _ {A : Type 0} (found : List ℕ → Result A Reason) (due low high at : ℕ) (input : List ℕ) where
  pub no_field : (e : Refusal) → field_at due low high input at ≡ Err e → content_at found due low high input at ≡ Err e
  no_field e p = rw p

  pub content_read : (b : List ℕ) (a : A) → field_at due low high input at ≡ Ok b → found b ≡ Ok a → content_at found due low high input at ≡ Ok a
  content_read b a p q = rw (p, q)

  pub content_bad : (b : List ℕ) (r : Reason) (place : ℕ) → field_at due low high input at ≡ Ok b → found b ≡ Err r → place ≡ at → content_at found due low high input at ≡ Err (refused r due place)
  content_bad b r place p q e = rw (p, q, e)

  -- what was found, seen as v, or a refusal of the field for the reason that came
  pub content_found : {B : Type 0} (v : B → A) (P : B → Type 0) (b : List ℕ) (x : Result B Reason) (r : Result B Refusal) (place : ℕ) → field_at due low high input at ≡ Ok b → MatchResult x (λ y. found b ≡ Ok (v y)) (λ e. found b ≡ Err e) → place ≡ at → ((y : B) → found b ≡ Ok (v y) → P y) → r ≡ in_field due place x → MatchResult r (λ y. (content_at found due low high input at ≡ Ok (v y)) × P y) (λ d. content_at found due low high input at ≡ Err d)
  content_found v P b (Ok y) r place p q e h m = rw m (content_read b (v y) p q, h y q)
  content_found v P b (Err e) r place p q l h m = rw m (content_bad b e place p q l)

  pub found_as : (b : List ℕ) (x : Result A Reason) → x ≡ found b → MatchResult x (λ y. found b ≡ Ok y) (λ e. found b ≡ Err e)
  found_as b (Ok y) e = sym e
  found_as b (Err r) e = sym e

-- the check
module _ (at : ℕ) (input : List ℕ) where
  pub no_check : (e : Refusal) → field_at 0xFF 4 4 input at ≡ Err e → check_at input at ≡ Err e
  unfolding check_at
  no_check e p = rw p

  module _ (b input1 : List ℕ) (place n hash : ℕ) (p : field_at 0xFF 4 4 input at ≡ Ok b) (i : input1 ≡ input) (o : place ≡ at) (a : n ≡ four b 0) (h : hash ≡ murmur 0 (take place input1)) where
    hashed : hash ≡ murmur 0 (take at input)
    hashed = h ∙ ap (λ (k : ℕ). murmur 0 (take k input1)) o ∙ ap (λ (t : List ℕ). murmur 0 (take at t)) i

    pub wrong_check : (n ≡ hash → ⊥) → check_at input at ≡ Err (refused WrongCheck 0xFF place)
    unfolding check_at
    wrong_check d =
        let t : eqb (four b 0) (murmur 0 (take at input)) ≡ false = ne_eqb (four b 0) (murmur 0 (take at input)) (λ e. d (a ∙ e ∙ sym hashed)) in
        rw (p, t, o)

    module _ (same : n ≡ hash) (end : ℕ) (f : end ≡ at + (3 + length b)) (l : length b ≡ 4) where
      right : eqb (four b 0) (murmur 0 (take at input)) ≡ true
      right = eq-eqb (four b 0) (murmur 0 (take at input)) (sym a ∙ same ∙ hashed)

      pub bytes_left : end < length input1 → check_at input at ≡ Err (refused BytesLeft 0 end)
      unfolding check_at
      bytes_left m =
          let s = ap length i in
          let g : at + 7 ≡ end = omega arith in
          let t : ltb (at + 7) (length input) ≡ true = lt-ltb (at + 7) (length input) (omega arith) in
          rw (p, right, t) (ap (λ (k : ℕ). Err (refused BytesLeft 0 k)) g)

      pub check_read : length input1 ≤ end → (check_at input at ≡ Ok tt) × (end ≡ at + 7)
      unfolding check_at
      check_read m =
          let s = ap length i in
          let t : ltb (at + 7) (length input) ≡ false = le-ltb (at + 7) (length input) (omega arith) in
          (rw (p, right, t), omega arith)
