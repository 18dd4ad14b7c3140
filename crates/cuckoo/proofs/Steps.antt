-- The lowest empty cell of a bucket, and one turn of the loop of kicks.
use Rattle.std.proofs.Common.{◌≡◌, ℕ, zero, suc, ◌+◌, ◌-◌, ◌*◌, ◌%◌, ◌<◌, ◌≤◌, Bool, true, false, ◌||◌, eqb, eq-eqb, ne_eqb, List, length, get_or, set, take, drop, Some, None, Option, sym, refl, ap, ◌∙◌, ⊎_elim, length-take, arith}
use Rattle.std.specs.Option.{option_map}
use Rattle.std.specs.List.{list_any, position, position_from, slice_range}
use Rattle.std.proofs.Math.Seq.{drop-cons, take-set-lt}
use borrow.Rule.Slice.PartMut.{mid_of, put_mid, mid_len, put_same, set_mid_at}
use Rattle.std.proofs.lemmas.List.{get_or-take, get_or-drop}
use Rattle.std.proofs.lemmas.Bool.{cases_Bool, cases_eq}
use Rattle.std.proofs.lemmas.Iterator.Adapters.{position_from-zero}
use Rattle.std.proofs.lemmas.List.Quantifiers.{position-Some}
use Rattle.filters.specs.declared.Settings.{Settings}
use Rattle.cuckoo.specs.Cells.{holds, put_into, or_else, kicked}
use Rattle.cuckoo.specs.Setting.{cuckoo_allows}
use Rattle.cuckoo.specs.Cuckoo.{buckets}
use Rattle.cuckoo.specs.Rules.{ranges}

any_from : (t : List ℕ) (c k f : ℕ) → c + k ≤ length t → list_any (λ cell. eqb cell f) (take k (drop c t)) ≡ holds t c k f
any_from t c zero f l = refl
any_from t c (suc k) f l =
    let e = drop-cons t c 0 (omega arith) in
    let s : suc c ≡ c + 1 = omega arith in
    rw (e, s) (ap (λ (b : Bool). eqb (get_or t c 0) f || b) (any_from t (c + 1) k f (omega arith)))

-- one of four cells from c on
pub any_held : (t : List ℕ) (c f : ℕ) → c + 4 ≤ length t → list_any (λ cell. eqb cell f) (slice_range t c (c + 4)) ≡ holds t c 4 f
any_held t c f l = let w : c + 4 - c ≡ 4 = omega arith in ap (λ (k : ℕ). list_any (λ cell. eqb cell f) (take k (drop c t))) w ∙ any_from t c 4 f l

into_from : (t : List ℕ) (b n k f : ℕ) → b + n + k ≤ length t → put_into t (b + n) k f ≡ option_map (λ j. set t (b + j) f) (position_from (λ cell. eqb cell 0) n (take k (drop (b + n) t)))
unfolding put_into
into_from t b n zero f l = refl
into_from t b n (suc k) f l =
    let e = drop-cons t (b + n) 0 (omega arith) in
    let s : suc (b + n) ≡ b + (n + 1) = omega arith in
    let p : b + n + 1 ≡ b + (n + 1) = omega arith in
    rw e
    (⊎_elim
    (λ (z : eqb (get_or t (b + n) 0) 0 ≡ true). rw z refl)
    (λ (z : eqb (get_or t (b + n) 0) 0 ≡ false). rw z (rw (p, s) (into_from t b (n + 1) k f (omega arith))))
    (cases_Bool (eqb (get_or t (b + n) 0) 0)))

-- the lowest empty one of four cells from c on
pub into_lowest : (t : List ℕ) (c f : ℕ) (o : Option ℕ) → c + 4 ≤ length t → o ≡ position (λ cell. eqb cell 0) (slice_range t c (c + 4)) → put_into t c 4 f ≡ option_map (λ j. set t (c + j) f) o
into_lowest t c f o l e =
    let z : c + 0 ≡ c = omega arith in
    let w : c + 4 - c ≡ 4 = omega arith in
    let place : Option ℕ → Option (List ℕ) = option_map (λ j. set t (c + j) f) in
    let at : ℕ → ℕ → Option (List ℕ) = λ k m. place (position_from (λ cell. eqb cell 0) 0 (take k (drop m t))) in
    ap (λ (m : ℕ). put_into t m 4 f) (sym z)
    ∙ into_from t c 0 4 f (omega arith)
    ∙ ap (at 4) z
    ∙ ap (λ (k : ℕ). at k c) (sym w)
    ∙ ap place (sym (position_from-zero (λ cell. eqb cell 0) (slice_range t c (c + 4))) ∙ sym e)

into_full : (t : List ℕ) (c k f : ℕ) → 0 < k → (get_or t c 0 ≡ 0 → ⊥) → put_into t c k f ≡ put_into t (c + 1) (k - 1) f
unfolding put_into
into_full t c zero f l e = absurd (omega arith)
into_full t c (suc k) f l e =
    let z : suc k - 1 ≡ k = omega arith in
    rw (ne_eqb (get_or t c 0) 0 e, z)

into_empty : (t : List ℕ) (c k f : ℕ) → 0 < k → get_or t c 0 ≡ 0 → put_into t c k f ≡ Some (set t c f)
unfolding put_into
into_empty t c zero f l e = absurd (omega arith)
into_empty t c (suc k) f l e = rw (eq-eqb (get_or t c 0) 0 e)

into_end : (t : List ℕ) (c f k : ℕ) → 4 ≤ k → put_into t c (4 - k) f ≡ None
unfolding put_into
into_end t c f k l = let z : 4 - k ≡ 0 = omega arith in rw z

-- cell k of the bucket at c, in the front of a table
module _ (size : ℕ) (table : List ℕ) (c k f : ℕ) (few : k < 4) (low : c + k < size) where
  into_here : get_or table (c + k) 0 ≡ 0 → put_into (take size table) (c + k) (4 - k) f ≡ Some (take size (set table (c + k) f))
  into_here e =
      into_empty (take size table) (c + k) (4 - k) f (omega arith) (get_or-take size table (c + k) 0 low ∙ e)
      ∙ ap Some (sym (take-set-lt size table (c + k) f low))

  into_next : (get_or table (c + k) 0 ≡ 0 → ⊥) → put_into (take size table) (c + k) (4 - k) f ≡ put_into (take size table) (c + (k + 1)) (4 - (k + 1)) f
  into_next e =
      let a : c + k + 1 ≡ c + (k + 1) = omega arith in
      let b : 4 - k - 1 ≡ 4 - (k + 1) = omega arith in
      into_full (take size table) (c + k) (4 - k) f (omega arith) (λ z. e (sym (get_or-take size table (c + k) 0 low) ∙ z))
      ∙ rw (a, b)

-- kick n of a fingerprint f from bucket i on: g is kicked out, and goes to bucket j
module _ (mate : ℕ → ℕ → ℕ) (n i f j g : ℕ) (t u : List ℕ) where
  pub record Kick : Type 0 where
    pub below : n < 64
    pub out : g ≡ get_or t (4 * i + n % 4) 0
    pub to : j ≡ mate i g
    pub left : u ≡ set t (4 * i + n % 4) f

  abbrev pub after_kick : ℕ → Option (List ℕ)
  after_kick k = or_else (put_into u (4 * j) 4 g) (kicked mate k (n + 1) j g u)

  one_kick : Kick → (k : ℕ) → 0 < k → kicked mate k n i f t ≡ after_kick (k - 1)
  unfolding kicked
  one_kick e zero l = absurd (omega arith)
  one_kick e (suc k) l = let z : suc k - 1 ≡ k = omega arith in rw (z, e.to, e.left, e.out)

  next_kick : Kick → kicked mate (64 - n) n i f t ≡ after_kick (64 - (n + 1))
  next_kick e =
      let b = e.below in
      let z : 64 - n - 1 ≡ 64 - (n + 1) = omega arith in
      one_kick e (64 - n) (omega arith) ∙ ap after_kick z

  pub kick_found : Kick → (w : List ℕ) → put_into u (4 * j) 4 g ≡ Some w → kicked mate (64 - n) n i f t ≡ Some w
  kick_found e w h = next_kick e ∙ rw h

  pub kick_on : Kick → put_into u (4 * j) 4 g ≡ None → kicked mate (64 - n) n i f t ≡ kicked mate (64 - (n + 1)) (n + 1) j g u
  kick_on e h = next_kick e ∙ rw h

pub kick_end : (mate : ℕ → ℕ → ℕ) (n i f : ℕ) (t : List ℕ) → 64 ≤ n → kicked mate (64 - n) n i f t ≡ None
unfolding kicked
kick_end mate n i f t l = let z : 64 - n ≡ 0 = omega arith in rw z

-- the cells of a bucket lie within the front of a table
module _ (s : Settings) (ok : cuckoo_allows s.size s.hashing.hashes ≡ true) (table : List ℕ) (long : length table ≡ 2048) (i : ℕ) (low : i < buckets s) where
  pub cells_fit : 4 * i + 4 ≤ length (take s.size table)
  cells_fit = let r = ranges s.size s.hashing.hashes ok in simp length-take (omega arith)

  pub cell_in_use : (k : ℕ) → position (λ cell. eqb cell 0) (slice_range (take s.size table) (4 * i) (4 * i + 4)) ≡ Some k → 4 * i + k < s.size
  cell_in_use k e =
      let r = ranges s.size s.hashing.hashes ok in
      let p = (position-Some (λ cell. eqb cell 0) (slice_range (take s.size table) (4 * i) (4 * i + 4)) k 0 e).0 in
      let l = length-take (4 * i + 4 - 4 * i) (drop (4 * i) (take s.size table)) in
      omega arith

  pub cell_of : (k : ℕ) → k < 4 → 4 * i + k < s.size
  cell_of k few = let r = ranges s.size s.hashing.hashes ok in omega arith

  -- so does the bucket, and it can be lent
  pub bucket_fits : (4 * i + 4 ≤ s.size) × (4 * i + 4 ≤ length table) × (length (mid_of (4 * i) (4 * i + 4 - 4 * i) table) ≡ 4)
  bucket_fits =
      let r = ranges s.size s.hashing.hashes ok in
      let room : 4 * i + 4 ≤ length table = omega arith in
      (omega arith, room, mid_len (4 * i) (4 * i + 4) table room ∙ omega arith)

-- a kick in the front of a table
pub kick_in_front : (mate : ℕ → ℕ → ℕ) (size n i f j g : ℕ) (table : List ℕ) → n < 64 → 4 * i + n % 4 < size → (j ≡ mate i (get_or table (4 * i + n % 4) 0)) × (g ≡ get_or table (4 * i + n % 4) 0) → Kick mate n i f j g (take size table) (take size (set table (4 * i + n % 4) f))
kick_in_front mate size n i f j g table below low at =
    record { below = below; out = at.1 ∙ sym (get_or-take size table (4 * i + n % 4) 0 low); to = at.0 ∙ ap (mate i) (sym at.1); left = take-set-lt size table (4 * i + n % 4) f low }

-- no one of the first k cells is empty
abbrev pub Full : List ℕ → ℕ → Type 0
Full cells k = (j : ℕ) → j < k → get_or cells j 0 ≡ 0 → ⊥

pub full_next : (cells : List ℕ) (k : ℕ) → Full cells k → (get_or cells k 0 ≡ 0 → ⊥) → Full cells (k + 1)
full_next cells k e n j l =
    ⊎_elim
    (λ (z : j ≡ k). λ h. n (ap (λ (m : ℕ). get_or cells m 0) (sym z) ∙ h))
    (λ (z : j ≡ k → ⊥). e j (omega arith))
    (cases_eq j k)

-- four cells of a table from c on, lent
module _ (table : List ℕ) (c : ℕ) (cells : List ℕ) (lent : cells ≡ mid_of c (c + 4 - c) table) where
  pub lent_back : put_mid c (c + 4 - c) table cells ≡ table
  lent_back = ap (put_mid c (c + 4 - c) table) lent ∙ put_same c (c + 4 - c) table

  pub lent_set : (k f : ℕ) → c + 4 ≤ length table → k < 4 → put_mid c (c + 4 - c) table (set cells k f) ≡ set table (c + k) f
  lent_set k f long few =
      let l = mid_len c (c + 4) table long in
      ap (λ (t : List ℕ). put_mid c (c + 4 - c) table (set t k f)) lent ∙ set_mid_at c (c + 4 - c) k table f (omega arith)

  cell_at : (k : ℕ) → k < 4 → get_or table (c + k) 0 ≡ get_or cells k 0
  cell_at k few =
      sym (get_or-drop c table k 0)
      ∙ sym (get_or-take (c + 4 - c) (drop c table) k 0 (omega arith))
      ∙ ap (λ (t : List ℕ). get_or t k 0) (sym lent)

  module _ (size f : ℕ) (low : c + 4 ≤ size) where
    into_walked : (k : ℕ) → k ≤ 4 → Full cells k → put_into (take size table) c 4 f ≡ put_into (take size table) (c + k) (4 - k) f
    into_walked zero l e = let z : c + 0 ≡ c = omega arith in rw z refl
    into_walked (suc k) l e =
        let z : k + 1 ≡ suc k = omega arith in
        into_walked k (omega arith) (λ j m. e j (omega arith))
        ∙ into_next size table c k f (omega arith) (omega arith) (λ h. e k (omega arith) (sym (cell_at k (omega arith)) ∙ h))
        ∙ ap (λ (m : ℕ). put_into (take size table) (c + m) (4 - m) f) z

    pub into_first : (k : ℕ) → k < 4 → Full cells k → get_or cells k 0 ≡ 0 → put_into (take size table) c 4 f ≡ Some (take size (set table (c + k) f))
    into_first k few e h = into_walked k (omega arith) e ∙ into_here size table c k f few (omega arith) (cell_at k few ∙ h)

    pub into_none : Full cells 4 → put_into (take size table) c 4 f ≡ None
    into_none e = into_walked 4 (omega arith) e ∙ into_end (take size table) (c + 4) f 4 (omega arith)
