-- A head that was written is read back, and one that was read stands as it is written.
use Rattle.std.proofs.Common.{◌≡◌, ℕ, ◌+◌, ◌<◌, true, false, ◌&&◌, eqb, ltb, leb, List, [], ◌∷◌, ◌++◌, length, get_or, take, is_some, Some, None, Ok, Option, sym, refl, ap, ◌∙◌, ⊎_elim, arith}
use Rattle.std.proofs.lemmas.Bool.{cases_Bool, cond-true, cond-false, eqb-true, lt-ltb, ltb-true, le-leb, leb-true, and_from, and_parts}
use Rattle.refusals.specs.declared.Reason.TheVariants.{BadValue}
use Rattle.passes.specs.Bytes.{bytes, be2}
use Rattle.passes.specs.ByteLaws.{bytes_at, bytes_append}
use Rattle.filters.specs.Kind.{hashes_allowed}
use Rattle.fields.specs.Fields.{field}
use Rattle.fields.specs.Reading.{four, two, be4}
use Rattle.fields.proofs.Numbers.{all_listed, be4_four, be2_two, four_small, two_small, four_bytes, two_bytes, be2_bytes, be4_bytes}
use Rattle.fields.proofs.Steps.{never, content_read}
use Rattle.fields.proofs.Readback.{field_back, field_bytes}
use Rattle.fields.proofs.Stands.{content_stands}
use Rattle.levels.specs.Deciders.{Table}
use Rattle.publications.specs.declared.PublicationHead.{PublicationHead}
use Rattle.publications.specs.Publications.{head_field}
use Rattle.publications.specs.Reading.{Makes, known_tables, head_in, head_at}
use Rattle.publications.specs.Layout.{AllowedHead}

abbrev pub head_body : PublicationHead → List ℕ
head_body h = 1 ∷ h.make ∷ h.hashes ∷ (be2 h.salt ++ be4 h.number)

module _ (makes : Makes) (h : PublicationHead) (ts : List Table) (a : AllowedHead makes h ts) where
  head_in_back : head_in makes (head_body h) ≡ Ok h
  head_in_back =
      let body = head_body h in
      let n : four body 5 ≡ h.number = four_bytes h.number a.numbered.1 in
      let s : two body 3 ≡ h.salt = two_bytes h.salt a.salted in
      let some = a.numbered.0 in
      let known : is_some (makes h.make) ≡ true = ap is_some a.known in
      let count : hashes_allowed h.hashes ≡ true = and_from _ _ (le-leb 1 h.hashes a.hashed.0) (le-leb h.hashes 8 a.hashed.1) in
      cond-true (eqb (get_or body 0 0) 1 && (is_some (makes (get_or body 1 0)) && (hashes_allowed (get_or body 2 0) && ltb 0 (four body 5)))) _ _
      (and_from _ _ refl (and_from _ _ known (and_from _ _ count (lt-ltb 0 (four body 5) (omega arith)))))
      ∙ ap (λ (k : ℕ). Ok (record { make = h.make; hashes = h.hashes; salt = k; number = four body 5 })) s
      ∙ ap (λ (k : ℕ). Ok (record { make = h.make; hashes = h.hashes; salt = h.salt; number = k })) n

  pub head_back : (rest : List ℕ) → head_at makes (head_field h ++ rest) 0 ≡ Ok h
  unfolding head_at
  head_back rest = content_read (head_in makes) 0x01 9 9 0 (head_field h ++ rest) (head_body h) h (field_back [] (head_body h) rest 0x01 9 9 (omega arith) (omega arith) (omega arith)) head_in_back

  pub head_is_bytes : bytes (head_field h) ≡ true
  head_is_bytes =
      let m = a.make_byte in
      let n = a.hashed.1 in
      field_bytes 0x01 (head_body h) refl
      (bytes_append (1 ∷ h.make ∷ h.hashes ∷ []) (be2 h.salt ++ be4 h.number)
      (and_from _ _ refl (and_from _ _ (lt-ltb h.make 256 m) (and_from _ _ (lt-ltb h.hashes 256 (omega arith)) refl)))
      (bytes_append (be2 h.salt) (be4 h.number) (be2_bytes h.salt) (be4_bytes h.number)))

-- a head that was read
pub record ReadHead (makes : Makes) (input : List ℕ) (h : PublicationHead) : Type 0 where
  pub allowed : AllowedHead makes h (known_tables (makes h.make))
  pub written : take 12 input ≡ head_field h

some_tables : (o : Option (List Table)) → is_some o ≡ true → o ≡ Some (known_tables o)
some_tables None e = absurd (let z : ⊥ = grind arith in z)
some_tables (Some ts) e = refl

record HeadParts (makes : Makes) (b : List ℕ) (h : PublicationHead) : Type 0 where
  pub edition : get_or b 0 0 ≡ 1
  pub known : is_some (makes (get_or b 1 0)) ≡ true
  pub counted : hashes_allowed (get_or b 2 0) ≡ true
  pub positive : 0 < four b 5
  pub make : h.make ≡ get_or b 1 0
  pub hashes : h.hashes ≡ get_or b 2 0
  pub salt : h.salt ≡ two b 3
  pub number : h.number ≡ four b 5

head_parts : (makes : Makes) (b : List ℕ) (h : PublicationHead) → head_in makes b ≡ Ok h → HeadParts makes b h
head_parts makes b h e =
    let made : PublicationHead = record { make = get_or b 1 0; hashes = get_or b 2 0; salt = two b 3; number = four b 5 } in
    let inner = is_some (makes (get_or b 1 0)) && (hashes_allowed (get_or b 2 0) && ltb 0 (four b 5)) in
    ⊎_elim
    (λ (m : (eqb (get_or b 0 0) 1 && (is_some (makes (get_or b 1 0)) && (hashes_allowed (get_or b 2 0) && ltb 0 (four b 5)))) ≡ true).
    let f = sym (cond-true (eqb (get_or b 0 0) 1 && inner) _ _ m) ∙ e in
    let q : made ≡ h = cc in
    let p = and_parts (eqb (get_or b 0 0) 1) inner m in
    let r = and_parts (is_some (makes (get_or b 1 0))) (hashes_allowed (get_or b 2 0) && ltb 0 (four b 5)) p.1 in
    let s = and_parts (hashes_allowed (get_or b 2 0)) (ltb 0 (four b 5)) r.1 in
    record {
      edition = eqb-true (get_or b 0 0) 1 p.0;
      known = r.0;
      counted = s.0;
      positive = ltb-true 0 (four b 5) s.1;
      make = sym (ap (λ (x : PublicationHead). x.make) q);
      hashes = sym (ap (λ (x : PublicationHead). x.hashes) q);
      salt = sym (ap (λ (x : PublicationHead). x.salt) q);
      number = sym (ap (λ (x : PublicationHead). x.number) q);
    })
    (λ (m : (eqb (get_or b 0 0) 1 && (is_some (makes (get_or b 1 0)) && (hashes_allowed (get_or b 2 0) && ltb 0 (four b 5)))) ≡ false). absurd (never BadValue h (sym (cond-false (eqb (get_or b 0 0) 1 && inner) _ _ m) ∙ e)))
    (cases_Bool (eqb (get_or b 0 0) 1 && (is_some (makes (get_or b 1 0)) && (hashes_allowed (get_or b 2 0) && ltb 0 (four b 5)))))

module _ (makes : Makes) (b : List ℕ) (h : PublicationHead) (real : bytes b ≡ true) (nine : length b ≡ 9) (p : HeadParts makes b h) where
  parts_allowed : AllowedHead makes h (known_tables (makes h.make))
  parts_allowed =
      let c = and_parts (leb 1 (get_or b 2 0)) (leb (get_or b 2 0) 8) p.counted in
      let low = leb-true 1 (get_or b 2 0) c.0 in
      let high = leb-true (get_or b 2 0) 8 c.1 in
      let n = p.hashes in
      let k = p.number in
      let m = p.make in
      let s = p.salt in
      let some = p.positive in
      record {
        known = some_tables (makes h.make) (ap (λ (x : ℕ). is_some (makes x)) m ∙ p.known);
        make_byte = (let z = bytes_at b 1 real in omega arith);
        hashed = (omega arith, omega arith);
        salted = (let z = two_small b 3 real in omega arith);
        numbered = (omega arith, (let z = four_small b 5 real in omega arith));
      }

  parts_body : b ≡ head_body h
  parts_body =
      let a = all_listed 9 0 b nine in
      let s = be2_two b 3 h.salt real p.salt in
      let n = be4_four b 5 h.number real p.number in
      let o = p.edition in
      let m = p.make in
      let k = p.hashes in
      let made : head_body h ≡ 1 ∷ h.make ∷ h.hashes ∷ get_or b 3 0 ∷ get_or b 4 0 ∷ get_or b 5 0 ∷ get_or b 6 0 ∷ get_or b 7 0 ∷ get_or b 8 0 ∷ [] =
      ap (λ (t : List ℕ). 1 ∷ h.make ∷ h.hashes ∷ (t ++ be4 h.number)) s ∙ ap (λ (t : List ℕ). 1 ∷ h.make ∷ h.hashes ∷ get_or b 3 0 ∷ get_or b 4 0 ∷ t) n
      in
      a
      ∙ ap (λ (x : ℕ). x ∷ get_or b 1 0 ∷ get_or b 2 0 ∷ get_or b 3 0 ∷ get_or b 4 0 ∷ get_or b 5 0 ∷ get_or b 6 0 ∷ get_or b 7 0 ∷ get_or b 8 0 ∷ []) o
      ∙ ap (λ (x : ℕ). 1 ∷ x ∷ get_or b 2 0 ∷ get_or b 3 0 ∷ get_or b 4 0 ∷ get_or b 5 0 ∷ get_or b 6 0 ∷ get_or b 7 0 ∷ get_or b 8 0 ∷ []) (sym m)
      ∙ ap (λ (x : ℕ). 1 ∷ h.make ∷ x ∷ get_or b 3 0 ∷ get_or b 4 0 ∷ get_or b 5 0 ∷ get_or b 6 0 ∷ get_or b 7 0 ∷ get_or b 8 0 ∷ []) (sym k)
      ∙ sym made

pub head_stands : (makes : Makes) (input : List ℕ) (h : PublicationHead) → bytes input ≡ true → head_at makes input 0 ≡ Ok h → ReadHead makes input h
unfolding head_at
head_stands makes input h real e =
    let t = content_stands (head_in makes) 0x01 9 9 input 0 h real e in
    let b = t.0 in
    let s = t.1 in
    let p = head_parts makes b h t.2 in
    let l : length b ≡ 9 = omega (arith, s.long, s.short) in
    let twelve : 0 + (3 + length b) ≡ 12 = omega arith in
    record {
      allowed = parts_allowed makes b h s.real l p;
      written = ap (λ (m : ℕ). take m input) (sym twelve) ∙ s.written ∙ ap (field 0x01) (parts_body makes b h s.real l p);
    }
