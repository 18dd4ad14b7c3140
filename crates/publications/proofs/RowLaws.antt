-- Coverage rows that were written are read back, and those that were read stand as they are written.
use Rattle.std.proofs.Common.{◌≡◌, ℕ, zero, suc, ◌+◌, ◌*◌, ◌/◌, ◌%◌, ◌<◌, ◌≤◌, Bool, true, false, ◌||◌, eqb, leb, ◌⊎◌, List, [], ◌∷◌, ◌++◌, length, get_or, drop, Some, None, Ok, Err, Option, Result, sym, refl, ap, ◌∙◌, subst, inl, inr, ⊎_elim, add-zero, arith}
use Rattle.std.proofs.lemmas.List.{length-append, get_or-append-add, drop_more, drop_all}
use Rattle.std.proofs.lemmas.Bool.{cases_Bool, cond-true, cond-false, both_ways, eq-eqb, eqb-true, le-leb, leb-true, and_from, and_parts, or_from, cases_lt}
use Rattle.refusals.specs.declared.Reason.{Reason}
use Rattle.refusals.specs.declared.Reason.TheVariants.{BadValue, NotAscending}
use Rattle.passes.specs.Bytes.{bytes, be2}
use Rattle.passes.specs.ByteLaws.{bytes_append}
use Rattle.fields.specs.Reading.{then, two}
use Rattle.fields.proofs.Numbers.{be2_two, two_small, two_bytes, be2_bytes}
use Rattle.fields.proofs.Steps.{never}
use Rattle.passes.specs.declared.kind.PassKind.{PassKind}
use Rattle.passes.specs.declared.kind.PassKind.TheVariants.{Tag, Chip}
use Rattle.publications.specs.declared.CoverageRow.{CoverageRow}
use Rattle.passes.specs.Kinds.{kind_byte, kind_of}
use Rattle.publications.specs.Publications.{row_bytes, rows_bytes}
use Rattle.publications.specs.Reading.{with_kind, row_at, same_key, repeats, rows_from, rows_in}
use Rattle.publications.specs.Layout.{AllowedRow, AllowedCoverage, no_row, row_of}
use Rattle.publications.proofs.Rows.{with_row, one_row}

pub rows_length : (rs : List CoverageRow) → length (rows_bytes rs) ≡ 7 * length rs
rows_length [] = refl
rows_length (r ∷ rs) = let a = length-append (row_bytes r) (rows_bytes rs) in let b = rows_length rs in let c : length (row_bytes r) ≡ 7 = refl in omega arith

-- the parts of the row at a place
pub record Parts (b : List ℕ) (at : ℕ) (r : CoverageRow) : Type 0 where
  pub kind : get_or b at 0 ≡ kind_byte r.kind
  pub issuer : two b (at + 1) ≡ r.issuer
  pub first : two b (at + 3) ≡ r.first
  pub last : two b (at + 5) ≡ r.last

module _ (r : CoverageRow) (rs : List CoverageRow) where
  shift : (at j : ℕ) → at ≡ 7 + j → get_or (rows_bytes (r ∷ rs)) at 0 ≡ get_or (rows_bytes rs) j 0
  shift at j e = ap (λ (n : ℕ). get_or (rows_bytes (r ∷ rs)) n 0) e ∙ get_or-append-add (row_bytes r) (rows_bytes rs) j 0

  two_shift : (at j : ℕ) → at ≡ 7 + j → two (rows_bytes (r ∷ rs)) at ≡ two (rows_bytes rs) j
  two_shift at j e = let a = shift at j e in let b = shift (at + 1) (j + 1) (omega arith) in omega arith

  parts_shift : (at j : ℕ) (q : CoverageRow) → at ≡ 7 + j → Parts (rows_bytes rs) j q → Parts (rows_bytes (r ∷ rs)) at q
  parts_shift at j q e p = record {
    kind = shift at j e ∙ p.kind;
    issuer = two_shift (at + 1) (j + 1) (omega arith) ∙ p.issuer;
    first = two_shift (at + 3) (j + 3) (omega arith) ∙ p.first;
    last = two_shift (at + 5) (j + 5) (omega arith) ∙ p.last;
  }

pub parts_of : (rs : List CoverageRow) (i : ℕ) → i < length rs → ((j : ℕ) → j < length rs → AllowedRow (row_of rs j)) → Parts (rows_bytes rs) (7 * i) (row_of rs i)
parts_of [] i l a = absurd (omega arith)
parts_of (r ∷ rs) zero l a =
    let w = a 0 (omega arith) in
    let m = w.in_order in
    let t = w.in_time in
    record { kind = refl; issuer = two_bytes r.issuer w.issued; first = two_bytes r.first (omega arith); last = two_bytes r.last t }
parts_of (r ∷ rs) (suc i) l a = parts_shift r rs (7 * suc i) (7 * i) (row_of rs i) (omega arith) (parts_of rs i (omega arith) (λ j m. a (suc j) (omega arith)))

kind_back : (k : PassKind) → kind_of (kind_byte k) ≡ Some k
kind_back Tag = refl
kind_back Chip = refl

pub row_back : (b : List ℕ) (at : ℕ) (r : CoverageRow) → Parts b at r → AllowedRow r → row_at b at ≡ Some r
row_back b at r p a =
    let m = a.in_order in
    let o : Option PassKind → ℕ → ℕ → ℕ → Option CoverageRow = with_kind in
    ap (λ (n : ℕ). o (kind_of n) (two b (at + 1)) (two b (at + 3)) (two b (at + 5))) p.kind
    ∙ ap (λ (k : Option PassKind). o k (two b (at + 1)) (two b (at + 3)) (two b (at + 5))) (kind_back r.kind)
    ∙ ap (λ (n : ℕ). o (Some r.kind) n (two b (at + 3)) (two b (at + 5))) p.issuer
    ∙ ap (λ (n : ℕ). o (Some r.kind) r.issuer n (two b (at + 5))) p.first
    ∙ ap (λ (n : ℕ). o (Some r.kind) r.issuer r.first n) p.last
    ∙ cond-true (leb r.first r.last) _ _ (le-leb r.first r.last m)

kind_one : (j k : PassKind) → kind_byte j ≡ kind_byte k → j ≡ k
kind_one Tag Tag e = refl
kind_one Chip Chip e = refl
kind_one Tag Chip e = absurd (omega arith)
kind_one Chip Tag e = absurd (omega arith)

-- rows with the same kind and issuer, and bytes with the same key
pub key_same : (b : List ℕ) (x y : ℕ) (q r : CoverageRow) → Parts b x q → Parts b y r → q.kind ≡ r.kind → q.issuer ≡ r.issuer → same_key b x y ≡ true
key_same b x y q r p s k i =
    and_from _ _ (eq-eqb (get_or b x 0) (get_or b y 0) (p.kind ∙ ap kind_byte k ∙ sym s.kind)) (eq-eqb (two b (x + 1)) (two b (y + 1)) (p.issuer ∙ i ∙ sym s.issuer))

key_differs : (b : List ℕ) (x y : ℕ) (q r : CoverageRow) → Parts b x q → Parts b y r → (q.kind ≡ r.kind → q.issuer ≡ r.issuer → ⊥) → same_key b x y ≡ false
key_differs b x y q r p s n =
    ⊎_elim
    (λ (t : same_key b x y ≡ true).
    let u = and_parts (eqb (get_or b x 0) (get_or b y 0)) (eqb (two b (x + 1)) (two b (y + 1))) t in
    absurd (n (kind_one q.kind r.kind (sym p.kind ∙ eqb-true (get_or b x 0) (get_or b y 0) u.0 ∙ s.kind)) (sym p.issuer ∙ eqb-true (two b (x + 1)) (two b (y + 1)) u.1 ∙ s.issuer)))
    (λ t. t)
    (cases_Bool (same_key b x y))

module _ (rs : List CoverageRow) (a : AllowedCoverage rs) where
  no_repeat : (n i : ℕ) → n ≤ i → i < length rs → repeats (rows_bytes rs) n (7 * i) ≡ false
  no_repeat zero i m l = refl
  no_repeat (suc n) i m l =
      or_from (repeats (rows_bytes rs) n (7 * i)) _ (no_repeat n i (omega arith) l)
      (key_differs (rows_bytes rs) (7 * n) (7 * i) (row_of rs n) (row_of rs i) (parts_of rs n (omega arith) a.each) (parts_of rs i l a.each) (a.once n i (omega arith) l))

  rows_left : (n i : ℕ) → n + i ≡ length rs → rows_from n i (rows_bytes rs) ≡ Ok (drop i rs)
  unfolding rows_from with_row
  rows_left zero i e = ap Ok (sym (drop_all i rs (omega arith)))
  rows_left (suc n) i e =
      let b = rows_bytes rs in
      let l : i < length rs = omega arith in
      let row = row_back b (7 * i) (row_of rs i) (parts_of rs i l a.each) (a.each i l) in
      let off = no_repeat i i (omega arith) l in
      let next = rows_left n (i + 1) (omega arith) in
      one_row n i b ∙ ap (with_row n i b) row ∙ rw (off, next) (ap Ok (sym (drop_more rs i no_row l)))

  pub rows_back : rows_in (rows_bytes rs) ≡ Ok rs
  rows_back =
      let n = rows_length rs in
      let q : length (rows_bytes rs) / 7 ≡ length rs = omega arith in
      ap (λ (k : ℕ). rows_from k 0 (rows_bytes rs)) q ∙ rows_left (length rs) 0 (omega arith)

-- a row that was read
kind_found : (n : ℕ) (k : PassKind) → kind_of n ≡ Some k → n ≡ kind_byte k
kind_found n k e =
    ⊎_elim
    (λ (t : eqb n 0x54 ≡ true).
    let f : ◌≡◌ {A = Option PassKind} (Some Tag) (Some k) = sym (cond-true (eqb n 0x54) _ _ t) ∙ e in
    let q : Tag ≡ k = cc in
    eqb-true n 0x54 t ∙ ap kind_byte q)
    (λ (t : eqb n 0x54 ≡ false).
    let f = sym (cond-false (eqb n 0x54) _ _ t) ∙ e in
    ⊎_elim
    (λ (u : eqb n 0x43 ≡ true).
    let g : ◌≡◌ {A = Option PassKind} (Some Chip) (Some k) = sym (cond-true (eqb n 0x43) _ _ u) ∙ f in
    let q : Chip ≡ k = cc in
    eqb-true n 0x43 u ∙ ap kind_byte q)
    (λ (u : eqb n 0x43 ≡ false). absurd (let g : ◌≡◌ {A = Option PassKind} None (Some k) = sym (cond-false (eqb n 0x43) _ _ u) ∙ f in let z : ◌≡◌ {A = ℕ} 0 1 = cc in let y : ⊥ = omega arith in y))
    (cases_Bool (eqb n 0x43)))
    (cases_Bool (eqb n 0x54))

module _ (b : List ℕ) (at : ℕ) (r : CoverageRow) (real : bytes b ≡ true) where
  found_with : (o : Option PassKind) → o ≡ kind_of (get_or b at 0) → with_kind o (two b (at + 1)) (two b (at + 3)) (two b (at + 5)) ≡ Some r → Parts b at r × (r.first ≤ r.last)
  found_with None s e = absurd (let z : ◌≡◌ {A = ℕ} 0 1 = cc in let y : ⊥ = omega arith in y)
  found_with (Some k) s e =
      let made : CoverageRow = record { kind = k; issuer = two b (at + 1); first = two b (at + 3); last = two b (at + 5) } in
      ⊎_elim
      (λ (t : leb (two b (at + 3)) (two b (at + 5)) ≡ true).
      let f : Some made ≡ Some r = sym (cond-true (leb (two b (at + 3)) (two b (at + 5))) _ _ t) ∙ e in
      let q : made ≡ r = cc in
      let m = leb-true (two b (at + 3)) (two b (at + 5)) t in
      let first = ap (λ (x : CoverageRow). x.first) q in
      let last = ap (λ (x : CoverageRow). x.last) q in
      (record { kind = kind_found (get_or b at 0) k (sym s) ∙ ap (λ (x : CoverageRow). kind_byte x.kind) q; issuer = ap (λ (x : CoverageRow). x.issuer) q; first = first; last = last }, omega arith))
      (λ (t : leb (two b (at + 3)) (two b (at + 5)) ≡ false). absurd (let f : ◌≡◌ {A = Option CoverageRow} None (Some r) = sym (cond-false (leb (two b (at + 3)) (two b (at + 5))) _ _ t) ∙ e in let z : ◌≡◌ {A = ℕ} 0 1 = cc in let y : ⊥ = omega arith in y))
      (cases_Bool (leb (two b (at + 3)) (two b (at + 5))))

  pub row_found : row_at b at ≡ Some r → Parts b at r × AllowedRow r
  row_found e =
      let p = found_with (kind_of (get_or b at 0)) refl e in
      let q = p.0 in
      let i = q.issuer in
      let l = q.last in
      (q, record { issued = (let s = two_small b (at + 1) real in omega arith); in_order = p.1; in_time = (let s = two_small b (at + 5) real in omega arith) })

  -- its seven bytes
  pub row_stands : at + 7 ≤ length b → Parts b at r → drop at b ≡ row_bytes r ++ drop (at + 7) b
  row_stands l p =
      let e1 : at + 1 + 1 ≡ at + 2 = omega arith in
      let e2 : at + 2 + 1 ≡ at + 3 = omega arith in
      let e3 : at + 3 + 1 ≡ at + 4 = omega arith in
      let e4 : at + 4 + 1 ≡ at + 5 = omega arith in
      let e5 : at + 5 + 1 ≡ at + 6 = omega arith in
      let e6 : at + 6 + 1 ≡ at + 7 = omega arith in
      let step : (i j : ℕ) → i < length b → i + 1 ≡ j → drop i b ≡ get_or b i 0 ∷ drop j b = λ i j m e. drop_more b i 0 m ∙ ap (λ (k : ℕ). get_or b i 0 ∷ drop k b) e in
      let d0 = step at (at + 1) (omega arith) refl in
      let d1 = step (at + 1) (at + 2) (omega arith) e1 in
      let d2 = step (at + 2) (at + 3) (omega arith) e2 in
      let d3 = step (at + 3) (at + 4) (omega arith) e3 in
      let d4 = step (at + 4) (at + 5) (omega arith) e4 in
      let d5 = step (at + 5) (at + 6) (omega arith) e5 in
      let d6 = step (at + 6) (at + 7) (omega arith) e6 in
      let g1 : get_or b (at + 1 + 1) 0 ≡ get_or b (at + 2) 0 = ap (λ (k : ℕ). get_or b k 0) e1 in
      let g3 : get_or b (at + 3 + 1) 0 ≡ get_or b (at + 4) 0 = ap (λ (k : ℕ). get_or b k 0) e3 in
      let g5 : get_or b (at + 5 + 1) 0 ≡ get_or b (at + 6) 0 = ap (λ (k : ℕ). get_or b k 0) e5 in
      let i = be2_two b (at + 1) r.issuer real (sym p.issuer) in
      let f = be2_two b (at + 3) r.first real (sym p.first) in
      let s = be2_two b (at + 5) r.last real (sym p.last) in
      let k = p.kind in
      let rest = drop (at + 7) b in
      let made : row_bytes r ++ rest ≡ get_or b at 0 ∷ get_or b (at + 1) 0 ∷ get_or b (at + 2) 0 ∷ get_or b (at + 3) 0 ∷ get_or b (at + 4) 0 ∷ get_or b (at + 5) 0 ∷ get_or b (at + 6) 0 ∷ rest =
      ap (λ (t : List ℕ). (kind_byte r.kind ∷ (t ++ (be2 r.first ++ be2 r.last))) ++ rest) i
      ∙ ap (λ (t : List ℕ). (kind_byte r.kind ∷ get_or b (at + 1) 0 ∷ get_or b (at + 1 + 1) 0 ∷ (t ++ be2 r.last)) ++ rest) f
      ∙ ap (λ (t : List ℕ). (kind_byte r.kind ∷ get_or b (at + 1) 0 ∷ get_or b (at + 1 + 1) 0 ∷ get_or b (at + 3) 0 ∷ get_or b (at + 3 + 1) 0 ∷ t) ++ rest) s
      ∙ cc
      in
      (let z : drop at b ≡ get_or b at 0 ∷ get_or b (at + 1) 0 ∷ get_or b (at + 2) 0 ∷ get_or b (at + 3) 0 ∷ get_or b (at + 4) 0 ∷ get_or b (at + 5) 0 ∷ get_or b (at + 6) 0 ∷ rest = cc in z) ∙ sym made

-- rows that were read stand as they are written
record FoundRows (n i : ℕ) (b : List ℕ) (rs : List CoverageRow) : Type 0 where
  pub count : length rs ≡ n
  pub written : rows_bytes rs ≡ drop (7 * i) b
  pub each : (j : ℕ) → j < length rs → AllowedRow (row_of rs j)
  pub new : (j : ℕ) → j < n → repeats b (i + j) (7 * (i + j)) ≡ false

module _ (n i : ℕ) (b : List ℕ) (rs : List CoverageRow) where
  behind : (t : Result (List CoverageRow) Reason) (r : CoverageRow) → then t (λ qs. Ok (r ∷ qs)) ≡ Ok rs → (more : List CoverageRow) × (t ≡ Ok more) × (r ∷ more ≡ rs)
  behind (Ok qs) r f = let q : r ∷ qs ≡ rs = cc in (qs, refl, q)
  behind (Err x) r f = absurd (never x rs f)

  -- the first row, and those behind it
  row_of_many : (o : Option CoverageRow) → o ≡ row_at b (7 * i) → with_row n i b o ≡ Ok rs → (r : CoverageRow) × (more : List CoverageRow) × (row_at b (7 * i) ≡ Some r) × (repeats b i (7 * i) ≡ false) × (rows_from n (i + 1) b ≡ Ok more) × (r ∷ more ≡ rs)
  unfolding with_row
  row_of_many None s e = absurd (never BadValue rs e)
  row_of_many (Some r) s e =
      ⊎_elim
      (λ (t : repeats b i (7 * i) ≡ true). absurd (never NotAscending rs (sym (cond-true (repeats b i (7 * i)) _ _ t) ∙ e)))
      (λ (t : repeats b i (7 * i) ≡ false). let u = behind (rows_from n (i + 1) b) r (sym (cond-false (repeats b i (7 * i)) _ _ t) ∙ e) in (r, u.0, sym s, t, u.1, u.2))
      (cases_Bool (repeats b i (7 * i)))

cons_each : (r : CoverageRow) (rs : List CoverageRow) → AllowedRow r → ((j : ℕ) → j < length rs → AllowedRow (row_of rs j)) → (j : ℕ) → j < length (r ∷ rs) → AllowedRow (row_of (r ∷ rs) j)
cons_each r rs a h zero l = a
cons_each r rs a h (suc j) l = h j (omega arith)

fresh : (n i : ℕ) (b : List ℕ) → repeats b i (7 * i) ≡ false → ((j : ℕ) → j < n → repeats b (i + 1 + j) (7 * (i + 1 + j)) ≡ false) → (j : ℕ) → j < suc n → repeats b (i + j) (7 * (i + j)) ≡ false
fresh n i b here low zero m = ap (λ (k : ℕ). repeats b k (7 * k)) (add-zero i) ∙ here
fresh n i b here low (suc j) m = let q : i + suc j ≡ i + 1 + j = omega arith in ap (λ (k : ℕ). repeats b k (7 * k)) q ∙ low j (omega arith)

rows_found : (n i : ℕ) (b : List ℕ) (rs : List CoverageRow) → bytes b ≡ true → 7 * (n + i) ≡ length b → rows_from n i b ≡ Ok rs → FoundRows n i b rs
unfolding rows_from
rows_found zero i b rs real l e =
    let q : ◌≡◌ {A = List CoverageRow} [] rs = cc in
    let P : List CoverageRow → Type 0 = FoundRows 0 i b in
    subst P q (record { count = refl; written = sym (drop_all (7 * i) b (omega arith)); each = λ j m. absurd (omega arith); new = λ j m. absurd (omega arith) })
rows_found (suc n) i b rs real l e =
    let t = row_of_many n i b rs (row_at b (7 * i)) refl (sym (one_row n i b) ∙ e) in
    let r = t.0 in
    let more = t.1 in
    let found = row_found b (7 * i) r real t.2 in
    let low = rows_found n (i + 1) b more real (omega arith) t.4 in
    let here = row_stands b (7 * i) r real (omega arith) found.0 in
    let next : 7 * i + 7 ≡ 7 * (i + 1) = omega arith in
    let P : List CoverageRow → Type 0 = FoundRows (suc n) i b in
    subst P t.5 (record {
      count = ap suc low.count;
      written = ap (λ (x : List ℕ). row_bytes r ++ x) low.written ∙ ap (λ (k : ℕ). row_bytes r ++ drop k b) (sym next) ∙ sym here;
      each = cons_each r more found.1 low.each;
      new = fresh n i b t.3 low.new;
    })

or_first : (x y : Bool) → (x || y) ≡ false → x ≡ false
or_first false y e = refl
or_first true y e = e

or_last : (x y : Bool) → (x || y) ≡ false → y ≡ false
or_last false y e = e
or_last true y e = absurd (let z : ⊥ = grind arith in z)

nearer : (i n : ℕ) → i ≤ n → (i ≡ n) ⊎ (i < n)
nearer i n l = ⊎_elim (λ (m : i < n). inr m) (λ (m : n ≤ i). inl (omega arith)) (cases_lt i n)

-- the first rows differ from the row at a place
each_differs : (b : List ℕ) (n i at : ℕ) → repeats b n at ≡ false → i < n → same_key b (7 * i) at ≡ false
each_differs b zero i at e l = absurd (omega arith)
each_differs b (suc n) i at e l =
    ⊎_elim
    (λ (q : i ≡ n). ap (λ (k : ℕ). same_key b (7 * k) at) q ∙ or_last (repeats b n at) (same_key b (7 * n) at) e)
    (λ (m : i < n). each_differs b n i at (or_first (repeats b n at) (same_key b (7 * n) at) e) m)
    (nearer i n (omega arith))

pub rows_stand : (b : List ℕ) (rs : List CoverageRow) → bytes b ≡ true → 7 ≤ length b → length b ≤ 448 → length b % 7 ≡ 0 → rows_in b ≡ Ok rs → AllowedCoverage rs × (rows_bytes rs ≡ b)
rows_stand b rs real low high seven e =
    let f = rows_found (length b / 7) 0 b rs real (omega arith) e in
    let same = f.written in
    let n = f.count in (
      record {
        some = omega arith;
        few = omega arith;
        each = f.each;
        once = λ i j l m kind issuer.
            let p = parts_of rs i (omega arith) f.each in
            let q = parts_of rs j m f.each in
            let yes = ap (λ (x : List ℕ). same_key x (7 * i) (7 * j)) (sym same) ∙ key_same (rows_bytes rs) (7 * i) (7 * j) (row_of rs i) (row_of rs j) p q kind issuer in
            let zero_plus : 0 + j ≡ j = omega arith in
            let off = ap (λ (k : ℕ). repeats b k (7 * k)) (sym zero_plus) ∙ f.new j (omega arith) in
            both_ways _ (each_differs b j i (7 * j) off l) yes;
      },
      same,
    )

kind_is_byte : (k : PassKind) → bytes (kind_byte k ∷ []) ≡ true
kind_is_byte Tag = refl
kind_is_byte Chip = refl

pub rows_are_bytes : (rs : List CoverageRow) → bytes (rows_bytes rs) ≡ true
rows_are_bytes [] = refl
rows_are_bytes (r ∷ rs) = bytes_append (row_bytes r) (rows_bytes rs) (bytes_append (kind_byte r.kind ∷ []) (be2 r.issuer ++ (be2 r.first ++ be2 r.last)) (kind_is_byte r.kind) (bytes_append (be2 r.issuer) (be2 r.first ++ be2 r.last) (be2_bytes r.issuer) (bytes_append (be2 r.first) (be2 r.last) (be2_bytes r.first) (be2_bytes r.last)))) (rows_are_bytes rs)
