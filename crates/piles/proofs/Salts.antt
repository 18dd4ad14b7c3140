-- One salt tried after the other.
use Rattle.std.proofs.Common.{◌≡◌, ℕ, zero, suc, ◌+◌, ◌-◌, ◌<◌, ◌≤◌, List, Ok, Err, Result, sym, refl, ap, ◌∙◌, ⊎_elim, arith}
use Rattle.std.proofs.lemmas.Bool.{cases_lt}
use Rattle.refusals.specs.declared.Refusal.{Refusal}
use Rattle.filters.specs.declared.Hashing.{Hashing}
use Rattle.levels.specs.Rows.{Row}
use Rattle.levels.specs.Deciders.{Decides}
use Rattle.fields.proofs.Steps.{never}
use Rattle.piles.specs.Tries.{at_salt, next_salt, tried, or_later, retried, salt_at, Outcome}

module _ {S : Type 0} (d : Decides S) (h : Hashing) (sizes : List ℕ) (rs : List Row) where
  pub retried_ok : (n salt : ℕ) (s : S) → d.build (at_salt h salt) sizes rs ≡ Ok s → retried d h sizes rs n salt ≡ Ok (salt, s)
  unfolding retried
  retried_ok zero salt s e = ap (tried d h sizes rs salt) e
  retried_ok (suc n) salt s e = ap (λ (t : Result S Refusal). or_later d h sizes rs salt t (retried d h sizes rs n (next_salt salt))) e

  pub retried_end : (n salt : ℕ) (e : Refusal) → n ≡ 0 → d.build (at_salt h salt) sizes rs ≡ Err e → retried d h sizes rs n salt ≡ Err e
  unfolding retried
  retried_end zero salt e z p = ap (tried d h sizes rs salt) p
  retried_end (suc n) salt e z p = absurd (omega arith)

  pub retried_on : (n salt : ℕ) (e : Refusal) → (n ≡ 0 → ⊥) → d.build (at_salt h salt) sizes rs ≡ Err e → retried d h sizes rs n salt ≡ retried d h sizes rs (n - 1) (next_salt salt)
  unfolding retried
  retried_on zero salt e z p = absurd (z refl)
  retried_on (suc n) salt e z p =
      let m : suc n - 1 ≡ n = omega arith in
      ap (λ (t : Result S Refusal). or_later d h sizes rs salt t (retried d h sizes rs n (next_salt salt))) p ∙ ap (λ (k : ℕ). retried d h sizes rs k (next_salt salt)) (sym m)

  abbrev pub FailedAt : ℕ → Type 0
  FailedAt i = (e : Refusal) × (d.build (at_salt h (salt_at h.salt i)) sizes rs ≡ Err e)

  salt_next : (i : ℕ) → next_salt (salt_at h.salt i) ≡ salt_at h.salt (i + 1)
  salt_next i = omega arith

  -- a success at some try behind the i-th
  pub record Found (i n salt : ℕ) (s : S) : Type 0 where
    pub more : ℕ
    pub few : more ≤ n
    pub at : salt ≡ salt_at h.salt (i + more)
    pub built : d.build (at_salt h salt) sizes rs ≡ Ok s
    pub before : (j : ℕ) → j < more → FailedAt (i + j)

  found_here : (i n salt : ℕ) (s t : S) → d.build (at_salt h (salt_at h.salt i)) sizes rs ≡ Ok t → ◌≡◌ {A = Result (ℕ × S) Refusal} (Ok (salt_at h.salt i, t)) (Ok (salt, s)) → Found i n salt s
  found_here i n salt s t b q =
      let p : ◌≡◌ {A = ℕ × S} (salt_at h.salt i, t) (salt, s) = cc in
      let a : salt_at h.salt i ≡ salt = ap (λ (r : ℕ × S). r.0) p in
      let c : t ≡ s = ap (λ (r : ℕ × S). r.1) p in
      let z : i + 0 ≡ i = omega arith in
      record { more = 0; few = omega arith; at = sym a ∙ ap (salt_at h.salt) (sym z); built = ap (λ (k : ℕ). d.build (at_salt h k) sizes rs) (sym a) ∙ b ∙ ap Ok c; before = λ j l. absurd (omega arith) }

  found_later : (i n salt : ℕ) (s : S) → FailedAt i → Found (i + 1) n salt s → Found i (suc n) salt s
  found_later i n salt s f g =
      let few = g.few in
      let e : i + 1 + g.more ≡ i + suc g.more = omega arith in
      record {
        more = suc g.more;
        few = omega arith;
        at = g.at ∙ ap (salt_at h.salt) e;
        built = g.built;
        before = λ j l.
            ⊎_elim
            (λ (z : j < 1). let w : i + j ≡ i = omega arith in rw w f)
            (λ (z : 1 ≤ j). let w : i + j ≡ i + 1 + (j - 1) = omega arith in rw w (g.before (j - 1) (omega arith)))
            (cases_lt j 1);
      }

  last_try : (i salt : ℕ) (s : S) (t : Result S Refusal) → d.build (at_salt h (salt_at h.salt i)) sizes rs ≡ t → tried d h sizes rs (salt_at h.salt i) t ≡ Ok (salt, s) → Found i 0 salt s
  last_try i salt s (Ok t) b e = found_here i 0 salt s t b e
  last_try i salt s (Err f) b e = absurd (never f (salt, s) e)

  one_try : (n i salt : ℕ) (s : S) (t : Result S Refusal) → d.build (at_salt h (salt_at h.salt i)) sizes rs ≡ t → (retried d h sizes rs n (salt_at h.salt (i + 1)) ≡ Ok (salt, s) → Found (i + 1) n salt s) → or_later d h sizes rs (salt_at h.salt i) t (retried d h sizes rs n (next_salt (salt_at h.salt i))) ≡ Ok (salt, s) → Found i (suc n) salt s
  one_try n i salt s (Ok t) b rec e = found_here i (suc n) salt s t b e
  one_try n i salt s (Err f) b rec e = found_later i n salt s (f, b) (rec (ap (retried d h sizes rs n) (sym (salt_next i)) ∙ e))

  pub found : (n i salt : ℕ) (s : S) → retried d h sizes rs n (salt_at h.salt i) ≡ Ok (salt, s) → Found i n salt s
  unfolding retried
  found zero i salt s e = last_try i salt s (d.build (at_salt h (salt_at h.salt i)) sizes rs) refl e
  found (suc n) i salt s e = one_try n i salt s (d.build (at_salt h (salt_at h.salt i)) sizes rs) refl (found n (i + 1) salt s) e

  -- all tries from the i-th on failed
  pub record Lost (i n : ℕ) (e : Refusal) : Type 0 where
    pub all : (j : ℕ) → j ≤ n → FailedAt (i + j)
    pub last : d.build (at_salt h (salt_at h.salt (i + n))) sizes rs ≡ Err e

  last_lost : (i : ℕ) (e : Refusal) (t : Result S Refusal) → d.build (at_salt h (salt_at h.salt i)) sizes rs ≡ t → tried d h sizes rs (salt_at h.salt i) t ≡ Err e → Lost i 0 e
  last_lost i e (Ok t) b q = absurd (never e (salt_at h.salt i, t) (sym q))
  last_lost i e (Err f) b q =
      let g : f ≡ e = cc in
      let z : i + 0 ≡ i = omega arith in
      record { all = λ j l. let w : i + j ≡ i = omega arith in rw w (f, b); last = rw z (b ∙ ap Err g) }

  one_lost : (n i : ℕ) (e : Refusal) (t : Result S Refusal) → d.build (at_salt h (salt_at h.salt i)) sizes rs ≡ t → (retried d h sizes rs n (salt_at h.salt (i + 1)) ≡ Err e → Lost (i + 1) n e) → or_later d h sizes rs (salt_at h.salt i) t (retried d h sizes rs n (next_salt (salt_at h.salt i))) ≡ Err e → Lost i (suc n) e
  one_lost n i e (Ok t) b rec q = absurd (never e (salt_at h.salt i, t) (sym q))
  one_lost n i e (Err f) b rec q =
      let g = rec (ap (retried d h sizes rs n) (sym (salt_next i)) ∙ q) in
      let w : i + suc n ≡ i + 1 + n = omega arith in
      record {
        all = λ j l.
            ⊎_elim
            (λ (z : j < 1). let v : i + j ≡ i = omega arith in rw v (f, b))
            (λ (z : 1 ≤ j). let v : i + j ≡ i + 1 + (j - 1) = omega arith in rw v (g.all (j - 1) (omega arith)))
            (cases_lt j 1);
        last = rw w g.last;
      }

  pub lost : (n i : ℕ) (e : Refusal) → retried d h sizes rs n (salt_at h.salt i) ≡ Err e → Lost i n e
  unfolding retried
  lost zero i e q = last_lost i e (d.build (at_salt h (salt_at h.salt i)) sizes rs) refl q
  lost (suc n) i e q = one_lost n i e (d.build (at_salt h (salt_at h.salt i)) sizes rs) refl (lost n (i + 1) e) q

pub outcome : {S : Type 0} (d : Decides S) → Outcome d
outcome d = record {
  succeeds = λ h sizes rs salt s low e.
      let start : salt_at h.salt 0 ≡ h.salt = omega arith in
      let f = found d h sizes rs 7 0 salt s (ap (retried d h sizes rs 7) start ∙ e) in
      let few = f.few in
      let z : 0 + f.more ≡ f.more = omega arith in
      record {
        tries = f.more;
        few = omega arith;
        at = f.at ∙ ap (salt_at h.salt) z;
        built = f.built;
        before = λ i l. let b = f.before i l in let y : 0 + i ≡ i = omega arith in rw y at b;
      };
  fails = λ h sizes rs e low q.
      let start : salt_at h.salt 0 ≡ h.salt = omega arith in
      let f = lost d h sizes rs 7 0 e (ap (retried d h sizes rs 7) start ∙ q) in
      record { all = λ i l. let b = f.all i (omega arith) in let y : 0 + i ≡ i = omega arith in rw y at b; last = f.last };
}
