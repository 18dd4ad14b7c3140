-- Kicks lose no fingerprint: each stays in its bucket or that bucket's partner.
use Rattle.std.specs.Prelude.{◌≡◌, ℕ, zero, suc, ◌+◌, ◌*◌, ◌%◌, ◌<◌, true, false, ◌⊎◌, List, length, set, Some, None, Option, ◌==◌, ◌≢◌, nat_eq, slice_index, slice_index_or, slice_set, refl}
use Rattle.std.proofs.Common.{sym, ap, subst, ◌∙◌, inl, inr, get_or-set_same, get_or-set_other, arith, eqb-true, eq-eqb}
use Rattle.std.proofs.Math.Logic.{⊎_elim}
use Rattle.std.proofs.Math.ListN.{length-set}
use Rattle.std.proofs.lemmas.Bool.{cases_Bool, cases_eq, or_cases, or_left, or_right, cond-true, cond-false, false≢true}
use Rattle.passes.specs.Bytes.{bytes}
use Rattle.passes.specs.ByteLaws.{bytes_at, bytes_set}
use Rattle.cuckoo.specs.Cells.{holds, put_into, or_else, kicked, stands, settled, stored}

-- f stands in bucket i
abbrev pub Stands : List ℕ → ℕ → ℕ → Type 0
Stands t i f = (j : ℕ) × (j < 4) × (4 * i + j < length t) × (slice_index t (4 * i + j) ≡ f)

-- a write at a cell that does not hold f leaves where f stands
stands_set : (t : List ℕ) (i f c g : ℕ) → (slice_index t c ≢ f) → Stands t i f → Stands (slice_set t c g) i f
stands_set t i f c g n (j, l, w, e) =
    let other : 4 * i + j ≡ c → ⊥ = λ (z : 4 * i + j ≡ c). n (ap (λ (m : ℕ). slice_index t m) (sym z) ∙ e) in
    (j, l, rw length-set w, rw get_or-set_other e)

-- a write of f into a cell of bucket i makes it stand there
stands_new : (t : List ℕ) (i f j : ℕ) → j < 4 → 4 * i + j < length t → Stands (slice_set t (4 * i + j) f) i f
stands_new t i f j l w = (j, l, rw length-set w, get_or-set_same t (4 * i + j) f 0 w)

nothing : {A : Type 0} (a : A) → ◌≡◌ {A = Option A} None (Some a) → ⊥
nothing a h = cc

-- where put_into wrote
into_some : (t : List ℕ) (c k f : ℕ) (u : List ℕ) → put_into t c k f ≡ Some u → (m : ℕ) × (m < k) × (slice_index t (c + m) ≡ 0) × (u ≡ slice_set t (c + m) f)
unfolding put_into
into_some t c zero f u e = absurd (nothing u e)
into_some t c (suc k) f u e =
    ⊎_elim
    (λ (z : nat_eq (slice_index t c) 0 ≡ true).
    let s : c + 0 ≡ c = omega arith in
    let h : ◌≡◌ {A = Option (List ℕ)} (Some (slice_set t c f)) (Some u) = rw z at e in
    let v : set t c f ≡ u = cc in
    (0, omega arith, rw s (eqb-true (slice_index t c) 0 z), rw s (sym v)))
    (λ (z : nat_eq (slice_index t c) 0 ≡ false).
    let r = into_some t (c + 1) k f u (rw z at e) in
    let s : c + suc r.0 ≡ c + 1 + r.0 = omega arith in
    (suc r.0, omega (arith, r.1), rw s r.2, rw s r.3))
    (cases_Bool (slice_index t c == 0))

-- which cell holds f
held_at : (t : List ℕ) (c k f : ℕ) → holds t c k f ≡ true → (j : ℕ) × (j < k) × (slice_index t (c + j) ≡ f)
held_at t c zero f e = absurd (false≢true e)
held_at t c (suc k) f e =
    ⊎_elim
    (λ (z : nat_eq (slice_index t c) f ≡ true). let s : c + 0 ≡ c = omega arith in (0, omega arith, rw s (eqb-true (slice_index t c) f z)))
    (λ (z : holds t (c + 1) k f ≡ true).
    let r = held_at t (c + 1) k f z in
    let s : c + suc r.0 ≡ c + 1 + r.0 = omega arith in
    (suc r.0, omega (arith, r.1), rw s r.2))
    (or_cases (slice_index t c == f) (holds t (c + 1) k f) e)

holds_at : (t : List ℕ) (c k f j : ℕ) → j < k → slice_index t (c + j) ≡ f → holds t c k f ≡ true
holds_at t c zero f j l e = absurd (omega arith)
holds_at t c (suc k) f zero l e = let s : c + 0 ≡ c = omega arith in or_left (slice_index t c == f) (holds t (c + 1) k f) (eq-eqb (slice_index t c) f (rw s at e))
holds_at t c (suc k) f (suc j) l e = let s : c + suc j ≡ c + 1 + j = omega arith in or_right (slice_index t c == f) (holds t (c + 1) k f) (holds_at t (c + 1) k f j (omega arith) (rw s at e))

-- b buckets, and a partner that stays among them and leads back
module _ (mate : ℕ → ℕ → ℕ) (b : ℕ) (low : (i f : ℕ) → i < b → mate i f < b) (twice : (i f : ℕ) → i < b → mate (mate i f) f ≡ i) where
  -- f stands in bucket i or its partner
  abbrev pub At : List ℕ → ℕ → ℕ → Type 0
  At t i f = Stands t i f ⊎ Stands t (mate i f) f

  pub at_stands : (t : List ℕ) (i f : ℕ) → length t ≡ 4 * b → i < b → stands mate t i f ≡ true → At t i f
  at_stands t i f long l e =
      ⊎_elim
      (λ (z : holds t (4 * i) 4 f ≡ true). let r = held_at t (4 * i) 4 f z in inl (r.0, r.1, omega (arith, r.1), r.2))
      (λ (z : holds t (4 * mate i f) 4 f ≡ true). let r = held_at t (4 * mate i f) 4 f z in inr (r.0, r.1, omega (arith, r.1, low i f l), r.2))
      (or_cases (holds t (4 * i) 4 f) (holds t (4 * mate i f) 4 f) e)

  pub stands_at : (t : List ℕ) (i f : ℕ) → At t i f → stands mate t i f ≡ true
  stands_at t i f (inl s) = or_left (holds t (4 * i) 4 f) (holds t (4 * mate i f) 4 f) (holds_at t (4 * i) 4 f s.0 s.1 s.3)
  stands_at t i f (inr s) = or_right (holds t (4 * i) 4 f) (holds t (4 * mate i f) 4 f) (holds_at t (4 * mate i f) 4 f s.0 s.1 s.3)

  -- f, at home in bucket i and its partner, stands there, or it is carried (c) to one of the two (k)
  abbrev pub Kept : List ℕ → ℕ → ℕ → ℕ → ℕ → Type 0
  Kept t c k i f = At t i f ⊎ ((c ≡ f) × ((k ≡ i) ⊎ (k ≡ mate i f)))

  -- one exchange
  one_kick : (t : List ℕ) (n i f j g : ℕ) → length t ≡ 4 * b → i < b → j < b → Kept t f i j g → Kept (slice_set t (4 * i + n % 4) f) (slice_index t (4 * i + n % 4)) (mate i (slice_index t (4 * i + n % 4))) j g
  one_kick t n i f j g long l at_home k =
      let c = 4 * i + n % 4 in
      let h = slice_index_or t c 0 in
      let w : c < length t = omega arith in
      let moved : (p : ℕ) → Stands t p g → Stands (slice_set t c f) p g ⊎ ((h ≡ g) × (i ≡ p)) =
      λ p s.
      ⊎_elim
      (λ (z : 4 * p + s.0 ≡ c). inr (ap (λ (m : ℕ). slice_index t m) (sym z) ∙ s.3, omega (arith, s.1)))
      (λ (z : 4 * p + s.0 ≡ c → ⊥). inl (s.0, s.1, rw length-set s.2, rw get_or-set_other s.3))
      (cases_eq (4 * p + s.0) c)
      in
      ⊎_elim
      (λ stood.
      ⊎_elim
      (λ (s : Stands t j g).
      ⊎_elim (λ a. inl (inl a)) (λ q. inr (q.0, inr (ap (λ (x : ℕ). mate x h) q.1 ∙ ap (mate j) q.0))) (moved j s))
      (λ (s : Stands t (mate j g) g).
      ⊎_elim (λ a. inl (inr a)) (λ q. inr (q.0, inl (ap (λ (x : ℕ). mate x h) q.1 ∙ ap (mate (mate j g)) q.0 ∙ twice j g at_home))) (moved (mate j g) s))
      stood)
      (λ carried.
      let here : Stands (slice_set t c f) i f = stands_new t i f (n % 4) (omega arith) w in
      let here' : Stands (slice_set t c f) i g = subst (λ (x : ℕ). Stands (slice_set t c f) i x) carried.0 here in
      ⊎_elim (λ (z : i ≡ j). inl (inl (subst (λ (x : ℕ). Stands (slice_set t c f) x g) z here'))) (λ (z : i ≡ mate j g). inl (inr (subst (λ (x : ℕ). Stands (slice_set t c f) x g) z here'))) carried.1)
      k

  -- the carried one comes to rest
  rested : (t : List ℕ) (i f j g : ℕ) (u : List ℕ) → length t ≡ 4 * b → i < b → (g ≢ 0) → put_into t (4 * i) 4 f ≡ Some u → Kept t f i j g → At u j g
  rested t i f j g u long l some e k =
      let r = into_some t (4 * i) 4 f u e in
      let c = 4 * i + r.0 in
      let zero_there : slice_index_or t c 0 ≡ g → ⊥ = λ (z : slice_index_or t c 0 ≡ g). some (sym z ∙ r.2) in
      rw r.3
      (⊎_elim
      (λ stood. ⊎_elim (λ s. inl (stands_set t j g c f zero_there s)) (λ s. inr (stands_set t (mate j g) g c f zero_there s)) stood)
      (λ carried.
      let here : Stands (slice_set t c f) i f = stands_new t i f r.0 r.1 (omega (arith, r.1)) in
      let here' : Stands (slice_set t c f) i g = subst (λ (x : ℕ). Stands (slice_set t c f) i x) carried.0 here in
      ⊎_elim (λ (z : i ≡ j). inl (subst (λ (x : ℕ). Stands (slice_set t c f) x g) z here')) (λ (z : i ≡ mate j g). inr (subst (λ (x : ℕ). Stands (slice_set t c f) x g) z here')) carried.1)
      k)

  go : (t : List ℕ) (i f : ℕ) (o later : Option (List ℕ)) (u : List ℕ) (j g : ℕ) → o ≡ put_into t (4 * i) 4 f → length t ≡ 4 * b → i < b → (g ≢ 0) → or_else o later ≡ Some u → Kept t f i j g → (later ≡ Some u → At u j g) → At u j g
  go t i f (Some v) later u j g q long l some e k rec = let z : v ≡ u = cc in rested t i f j g u long l some (sym q ∙ ap Some z) k
  go t i f None later u j g q long l some e k rec = rec e

  split : (t : List ℕ) (i f : ℕ) (later : Option (List ℕ)) (u : List ℕ) (j g : ℕ) → length t ≡ 4 * b → i < b → (g ≢ 0) → or_else (put_into t (4 * i) 4 f) later ≡ Some u → Kept t f i j g → (later ≡ Some u → At u j g) → At u j g
  split t i f later u j g long l some e k rec = go t i f (put_into t (4 * i) 4 f) later u j g refl long l some e k rec

  -- what stood before the kicks, and what was carried, stands after them
  pub kicks_keep : (k n i f : ℕ) (t u : List ℕ) → length t ≡ 4 * b → i < b → kicked mate k n i f t ≡ Some u → (j g : ℕ) → j < b → (g ≢ 0) → Kept t f i j g → At u j g
  unfolding kicked
  kicks_keep zero n i f t u long l e j g at_home some kept = absurd (nothing u e)
  kicks_keep (suc k) n i f t u long l e j g at_home some kept =
      let c = 4 * i + n % 4 in
      let h = slice_index_or t c 0 in
      let next = one_kick t n i f j g long l at_home kept in
      let long' : length (slice_set t c f) ≡ 4 * b = simp length-set long in
      let i' = mate i h in
      split (slice_set t c f) i' h (kicked mate k (n + 1) i' h (slice_set t c f)) u j g long' (low i h l) some e next
      (λ e2. kicks_keep k (n + 1) i' h (slice_set t c f) u long' (low i h l) e2 j g at_home some next)

  some_of : {A : Type 0} (o p : Option A) (u : A) → or_else o p ≡ Some u → (o ≡ Some u) ⊎ (p ≡ Some u)
  some_of (Some v) p u e = inl e
  some_of None p u e = inr e

  -- after a put of f at bucket i that is taken, all that stood before stands, and so does f
  pub stored_keeps : (t u : List ℕ) (i f : ℕ) → length t ≡ 4 * b → i < b → stored mate t i f ≡ Some u → (j g : ℕ) → j < b → (g ≢ 0) → At t j g ⊎ ((f ≡ g) × (i ≡ j)) → At u j g
  stored_keeps t u i f long l e j g at_home some h =
      let kept : Kept t f i j g = ⊎_elim (λ a. inl a) (λ c. inr (c.0, inl c.1)) h in
      let beside : Kept t f (mate i f) j g = ⊎_elim (λ a. inl a) (λ c. inr (c.0, inr (ap (λ (x : ℕ). mate x f) c.1 ∙ ap (mate j) c.0))) h in
      ⊎_elim
      (λ (z : stands mate t i f ≡ true).
      let q : ◌≡◌ {A = Option (List ℕ)} (Some t) (Some u) = sym (cond-true (stands mate t i f) (Some t) (or_else (settled mate t i f) (kicked mate 64 0 i f t)) z) ∙ e in
      let same : t ≡ u = cc in
      rw (sym same) (⊎_elim (λ a. a) (λ c. subst (λ (x : ℕ). At t x g) c.1 (subst (λ (x : ℕ). At t i x) c.0 (at_stands t i f long l z))) h))
      (λ (z : stands mate t i f ≡ false).
      let q : or_else (settled mate t i f) (kicked mate 64 0 i f t) ≡ Some u = sym (cond-false (stands mate t i f) (Some t) (or_else (settled mate t i f) (kicked mate 64 0 i f t)) z) ∙ e in
      ⊎_elim
      (λ (s : settled mate t i f ≡ Some u).
      ⊎_elim
      (λ (p : put_into t (4 * i) 4 f ≡ Some u). rested t i f j g u long l some p kept)
      (λ (p : put_into t (4 * mate i f) 4 f ≡ Some u). rested t (mate i f) f j g u long (low i f l) some p beside)
      (some_of (put_into t (4 * i) 4 f) (put_into t (4 * mate i f) 4 f) u s))
      (λ (s : kicked mate 64 0 i f t ≡ Some u). kicks_keep 64 0 i f t u long l s j g at_home some kept)
      (some_of (settled mate t i f) (kicked mate 64 0 i f t) u q))
      (cases_Bool (stands mate t i f))

  -- a table of bytes, n long
  abbrev pub Sized : ℕ → List ℕ → Type 0
  Sized n t = (length t ≡ n) × (bytes t ≡ true)

  sized_set : (n : ℕ) (t : List ℕ) (c f : ℕ) → f < 256 → Sized n t → Sized n (slice_set t c f)
  sized_set n t c f l s = (simp length-set s.0, bytes_set t c f s.1 l)

  sized_into : (n : ℕ) (t u : List ℕ) (c k f : ℕ) → f < 256 → Sized n t → put_into t c k f ≡ Some u → Sized n u
  sized_into n t u c k f l s e = let r = into_some t c k f u e in rw r.3 (sized_set n t (c + r.0) f l s)

  sized_kicked : (n k m i f : ℕ) (t u : List ℕ) → f < 256 → Sized n t → kicked mate k m i f t ≡ Some u → Sized n u
  unfolding kicked
  sized_kicked n zero m i f t u l s e = absurd (nothing u e)
  sized_kicked n (suc k) m i f t u l s e =
      let c = 4 * i + m % 4 in
      let g = slice_index_or t c 0 in
      let g_low = bytes_at t c s.1 in
      let s' = sized_set n t c f l s in
      ⊎_elim
      (λ p. sized_into n (slice_set t c f) u (4 * mate i g) 4 g g_low s' p)
      (λ p. sized_kicked n k (m + 1) (mate i g) g (slice_set t c f) u g_low s' p)
      (some_of (put_into (slice_set t c f) (4 * mate i g) 4 g) (kicked mate k (m + 1) (mate i g) g (slice_set t c f)) u e)

  pub stored_sized : (n : ℕ) (t u : List ℕ) (i f : ℕ) → f < 256 → Sized n t → stored mate t i f ≡ Some u → Sized n u
  stored_sized n t u i f l s e =
      ⊎_elim
      (λ (z : stands mate t i f ≡ true).
      let q : ◌≡◌ {A = Option (List ℕ)} (Some t) (Some u) = sym (cond-true (stands mate t i f) (Some t) (or_else (settled mate t i f) (kicked mate 64 0 i f t)) z) ∙ e in
      let same : t ≡ u = cc in
      rw (sym same) s)
      (λ (z : stands mate t i f ≡ false).
      let q : or_else (settled mate t i f) (kicked mate 64 0 i f t) ≡ Some u = sym (cond-false (stands mate t i f) (Some t) (or_else (settled mate t i f) (kicked mate 64 0 i f t)) z) ∙ e in
      ⊎_elim
      (λ (p : settled mate t i f ≡ Some u).
      ⊎_elim (λ r. sized_into n t u (4 * i) 4 f l s r) (λ r. sized_into n t u (4 * mate i f) 4 f l s r) (some_of (put_into t (4 * i) 4 f) (put_into t (4 * mate i f) 4 f) u p))
      (λ (p : kicked mate 64 0 i f t ≡ Some u). sized_kicked n 64 0 i f t u l s p)
      (some_of (settled mate t i f) (kicked mate 64 0 i f t) u q))
      (cases_Bool (stands mate t i f))
