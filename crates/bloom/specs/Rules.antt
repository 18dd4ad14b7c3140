-- The Bloom filter keeps the rules of a filter.
use Rattle.std.specs.Prelude.{◌≡◌, ℕ, zero, suc, ◌+◌, ◌*◌, ◌/◌, ◌%◌, ◌^◌, ◌<◌, ◌≤◌, true, false, ◌⊎◌, List, length, replicate, bit_or, nat_le, slice_index, refl}
use Rattle.std.proofs.Common.{ap, ◌∙◌, inl, inr, ⊎_elim, length-set, get_or-set_same, get_or-set_other, arith, leb-true, eqb-true, eq-eqb}
use Rattle.std.proofs.Math.Nat.{div_self, zero-div}
use Rattle.std.proofs.lemmas.Nat.{mod_below, or_shr, or_mod, or_comm, pow_pos, or_lt, pow_below}
use Rattle.std.proofs.lemmas.Bool.{and_parts, and_from, and_right, cases_eq, cases_lt}
use Rattle.passes.specs.Bytes.{bytes}
use Rattle.passes.specs.ByteLaws.{bytes_at, bytes_set}
use Rattle.passes.specs.declared.identifier.HashPair.{HashPair}
use Rattle.filters.specs.declared.Settings.{Settings}
use Rattle.filters.specs.Kind.{Rules, hashes_allowed}
use Rattle.filters.specs.TableRules.{slice_index-zeros, Whole, Keeps, table_rules, table_sound}
use Rattle.bloom.specs.Bits.{bit, with_bit, position, with_all, has_all}
use Rattle.bloom.specs.Setting.{bloom_allows, bloom_measures}
use Rattle.bloom.specs.Bloom.{BloomView, bloom_scheme, bloom_kind, bloom_view, says_pair, with_pair}

bit_of : (n : ℕ) → (n % 2 ≡ 0) ⊎ (n % 2 ≡ 1)
bit_of n = ⊎_elim (λ z. inl (omega arith)) (λ z. inr (omega arith)) (cases_lt (n % 2) 1)

low_or_l : (a b : ℕ) → a % 2 ≡ 1 → bit_or a b % 2 ≡ 1
low_or_l a b e = or_mod a b 1 ∙ rw e (⊎_elim (λ z. rw z) (λ z. rw z) (bit_of b))

low_or_r : (a b : ℕ) → b % 2 ≡ 1 → bit_or a b % 2 ≡ 1
low_or_r a b e = ap (λ (n : ℕ). n % 2) (or_comm a b) ∙ low_or_l b a e

or_keeps : (a b j : ℕ) → a / 2 ^ j % 2 ≡ 1 → bit_or a b / 2 ^ j % 2 ≡ 1
or_keeps a b j e = ap (λ (n : ℕ). n % 2) (or_shr a b j) ∙ low_or_l (a / 2 ^ j) (b / 2 ^ j) e

or_sets : (a j : ℕ) → bit_or a (2 ^ j) / 2 ^ j % 2 ≡ 1
or_sets a j = ap (λ (n : ℕ). n % 2) (or_shr a (2 ^ j) j) ∙ low_or_r (a / 2 ^ j) (2 ^ j / 2 ^ j) (ap (λ (n : ℕ). n % 2) (div_self (pow_pos j)))

pub bit_set_same : (t : List ℕ) (n : ℕ) → n / 8 < length t → bit (with_bit t n) n ≡ true
unfolding bit with_bit
bit_set_same t n l = rw get_or-set_same (eq-eqb _ 1 (or_sets (slice_index t (n / 8)) (n % 8)))

pub bit_set_keeps : (t : List ℕ) (n m : ℕ) → n / 8 < length t → bit t m ≡ true → bit (with_bit t n) m ≡ true
unfolding bit with_bit
bit_set_keeps t n m l e =
    ⊎_elim
    (λ (z : m / 8 ≡ n / 8). rw z (rw get_or-set_same (eq-eqb _ 1 (or_keeps (slice_index t (n / 8)) (2 ^ (n % 8)) (m % 8) (rw z at (eqb-true _ 1 e))))))
    (λ (z : m / 8 ≡ n / 8 → ⊥). rw get_or-set_other e)
    (cases_eq (m / 8) (n / 8))

length_with_bit : (t : List ℕ) (n : ℕ) → length (with_bit t n) ≡ length t
unfolding with_bit
length_with_bit t n = simp length-set

-- every byte of a table that is changed stays a byte
bytes_with_bit : (t : List ℕ) (n : ℕ) → bytes t ≡ true → bytes (with_bit t n) ≡ true
unfolding with_bit
bytes_with_bit t n h = bytes_set t (n / 8) _ h (or_lt 8 (slice_index t (n / 8)) (2 ^ (n % 8)) (bytes_at t (n / 8) h) (pow_below (n % 8) 8 (omega arith)))

module _ (a b N : ℕ) where
  pub length_with_all : (k : ℕ) (t : List ℕ) → length (with_all a b N k t) ≡ length t
  length_with_all zero t = refl
  length_with_all (suc k) t = length_with_bit (with_all a b N k t) (position a b N k) ∙ length_with_all k t

  pub bytes_with_all : (k : ℕ) (t : List ℕ) → bytes t ≡ true → bytes (with_all a b N k t) ≡ true
  bytes_with_all zero t h = h
  bytes_with_all (suc k) t h = bytes_with_bit (with_all a b N k t) (position a b N k) (bytes_with_all k t h)

  module _ (t : List ℕ) (pos : 1 ≤ length t) (size : N ≡ 8 * length t) where
    pub within : (k j : ℕ) → position a b N j / 8 < length (with_all a b N k t)
    within k j =
        let l = length_with_all k t in
        let m : position a b N j < N = mod_below (a + j * b) N (omega arith) in omega arith

    pub keeps : (k m : ℕ) → bit t m ≡ true → bit (with_all a b N k t) m ≡ true
    keeps zero m e = e
    keeps (suc k) m e = bit_set_keeps (with_all a b N k t) (position a b N k) m (within k k) (keeps k m e)

    -- the bits of the positions below j are set once k of them are
    pub has : (k j : ℕ) → j < k → bit (with_all a b N k t) (position a b N j) ≡ true
    has zero j l = absurd (omega arith)
    has (suc k) j l =
        ⊎_elim
        (λ (z : j < k). bit_set_keeps (with_all a b N k t) (position a b N k) (position a b N j) (within k k) (has k j z))
        (λ (z : k ≤ j). let e : j ≡ k = omega arith in rw e (bit_set_same (with_all a b N k t) (position a b N k) (within k k)))
        (cases_lt j k)

  all_from : (k : ℕ) (t : List ℕ) → ((j : ℕ) → j < k → bit t (position a b N j) ≡ true) → has_all a b N k t ≡ true
  all_from zero t h = refl
  all_from (suc k) t h = and_from (has_all a b N k t) _ (all_from k t (λ j l. h j (omega arith))) (h k (omega arith))

  each : (k : ℕ) (t : List ℕ) → has_all a b N k t ≡ true → (j : ℕ) → j < k → bit t (position a b N j) ≡ true
  each zero t e j l = absurd (omega arith)
  each (suc k) t e j l =
      let p = and_parts (has_all a b N k t) _ e in
      ⊎_elim (λ (z : j < k). each k t p.0 j z) (λ (z : k ≤ j). let q : j ≡ k = omega arith in rw q p.1) (cases_lt j k)

bit_zero : (n p : ℕ) → bit (replicate n 0) p ≡ false
unfolding bit
bit_zero n p = rw (slice_index-zeros n (p / 8), zero-div (2 ^ (p % 8)))

none_set : (a b N k n : ℕ) → 1 ≤ k → has_all a b N k (replicate n 0) ≡ false
none_set a b N zero n l = absurd (omega arith)
none_set a b N (suc k) n l = and_right (has_all a b N k (replicate n 0)) _ (bit_zero n (position a b N k))

-- the settings that are allowed, as numbers
pub record Ranges (size hashes : ℕ) : Type 0 where
  pub some : 1 ≤ size
  pub most : size ≤ 2048
  pub one : 1 ≤ hashes
  pub counted : hashes_allowed hashes ≡ true

pub ranges : (size hashes : ℕ) → bloom_allows size hashes ≡ true → Ranges size hashes
ranges size hashes e =
    let p = and_parts (bloom_measures size) (hashes_allowed hashes) e in
    let q = and_parts (nat_le 1 size) (nat_le size 2048) p.0 in
    let r = and_parts (nat_le 1 hashes) (nat_le hashes 8) p.1 in
    record { some = leb-true 1 size q.0; most = leb-true size 2048 q.1; one = leb-true 1 hashes r.0; counted = p.1 }

-- a view with a hash pair's positions set
module _ (v : BloomView) (h : HashPair) (w : Whole bloom_scheme v) where
  put_sized : (length (with_pair v h).table ≡ v.settings.size) × (bytes (with_pair v h).table ≡ true)
  put_sized =
      let N = 8 * v.settings.size in
      let k = v.settings.hashing.hashes in
      (length_with_all h.h1 h.h2 N k v.table ∙ w.long, bytes_with_all h.h1 h.h2 N k v.table w.real)

  put_has : says_pair (with_pair v h) h ≡ true
  put_has =
      let N = 8 * v.settings.size in
      let k = v.settings.hashing.hashes in
      let r = ranges v.settings.size k w.allowed in
      let l = w.long in
      all_from h.h1 h.h2 N k _ (has h.h1 h.h2 N v.table (omega arith) (omega arith) k)

  put_still : (g : HashPair) → says_pair v g ≡ true → says_pair (with_pair v h) g ≡ true
  put_still g e =
      let N = 8 * v.settings.size in
      let k = v.settings.hashing.hashes in
      let r = ranges v.settings.size k w.allowed in
      let l = w.long in
      all_from g.h1 g.h2 N k _
      (λ j b. keeps h.h1 h.h2 N v.table (omega arith) (omega arith) k (position g.h1 g.h2 N j) (each g.h1 g.h2 N k v.table e j b))

pub bloom_keeps : Keeps bloom_scheme
bloom_keeps = record {
  within = λ size e. leb-true size 2048 (and_parts (nat_le 1 size) (nat_le size 2048) e).1;
  first = refl;
  none = λ s h e. none_set h.h1 h.h2 (8 * s.size) s.hashing.hashes s.size (ranges s.size s.hashing.hashes e).one;
  sized = λ v h u w e. let same : (with_pair v h).table ≡ u = cc in rw (← same) (put_sized v h w);
  has = λ v h u w e. let same : (with_pair v h).table ≡ u = cc in rw (← same) (put_has v h w);
  still = λ v h g u w e s. let same : (with_pair v h).table ≡ u = cc in rw (← same) (put_still v h w g s);
}

pub bloom_rules : Rules bloom_kind
bloom_rules = table_rules bloom_scheme bloom_keeps

pub bloom_sound : (s : Settings) (table : List ℕ) → length table ≡ 2048 → bytes table ≡ true → bloom_allows s.size s.hashing.hashes ≡ true → bloom_kind.sound (bloom_view s table) ≡ true
bloom_sound = table_sound bloom_scheme bloom_keeps
