-- The cuckoo filter keeps the rules of a filter.
use Rattle.std.specs.Prelude.{◌≡◌, ℕ, zero, suc, ◌+◌, ◌*◌, ◌/◌, ◌%◌, ◌^◌, ◌<◌, ◌≤◌, true, false, ◌&&◌, ◌⊎◌, List, length, replicate, Some, ◌==◌, ◌≢◌, bit_xor, nat_le, slice_index, refl}
use Rattle.std.proofs.Common.{sym, ap, ◌∙◌, inl, inr, pow-suc, arith, leb-true}
use Rattle.std.specs.Int.Bits.{xor_assoc, xor_self, xor_zero_r}
use Rattle.std.proofs.lemmas.Nat.{mod_below, xor_lt}
use Rattle.std.proofs.lemmas.Bool.{and_parts, and_from, ne_eqb, or_from}
use Rattle.passes.specs.Bytes.{bytes}
use Rattle.passes.specs.declared.identifier.HashPair.{HashPair}
use Rattle.filters.specs.declared.Settings.{Settings}
use Rattle.filters.specs.Kind.{Rules, hashes_allowed}
use Rattle.filters.specs.TableRules.{slice_index-zeros, Keeps, table_rules, table_sound}
use Rattle.cuckoo.specs.Cells.{spread, partner, holds, fingerprint}
use Rattle.cuckoo.specs.Powers.{power_of_two, powers}
use Rattle.cuckoo.specs.Setting.{cuckoo_allows, cuckoo_measures}
use Rattle.cuckoo.specs.Keeping.{At, at_stands, stands_at, stored_keeps, stored_sized}
use Rattle.cuckoo.specs.Cuckoo.{cuckoo_scheme, cuckoo_kind, cuckoo_view, buckets, bucket_of, says_pair, stored_pair}

-- the partner's partner is the bucket itself
pub partner_twice : (b i f : ℕ) → partner b (partner b i f) f ≡ i
partner_twice b i f = let s = spread f % b in xor_assoc i s s ∙ ap (bit_xor i) (xor_self s) ∙ xor_zero_r i

pub partner_low : (b e : ℕ) → b ≡ 2 ^ e → (i f : ℕ) → i < b → partner b i f < b
partner_low b e two i f l =
    let a : i < 2 ^ e = omega (arith, two) in
    let s : spread f % b < 2 ^ e = omega (arith, two, mod_below (spread f) b (omega arith)) in
    omega (arith, two, xor_lt e i (spread f % b) a s)

-- the settings that are allowed, as numbers
pub record Ranges (size hashes : ℕ) : Type 0 where
  pub some : 4 ≤ size
  pub most : size ≤ 2048
  pub whole : size ≡ 4 * (size / 4)
  pub two : (e : ℕ) × (size / 4 ≡ 2 ^ e)
  pub counted : hashes_allowed hashes ≡ true

quarter : (size k : ℕ) → 4 ≤ size → size ≡ 2 ^ k → (size ≡ 4 * (size / 4)) × ((e : ℕ) × (size / 4 ≡ 2 ^ e))
quarter size zero l e = absurd (omega arith)
quarter size (suc zero) l e = absurd (omega arith)
quarter size (suc (suc k)) l e =
    let a = pow-suc 2 (suc k) in
    let b = pow-suc 2 k in
    let f : size ≡ 4 * 2 ^ k = omega arith in
    (omega arith, (k, omega arith))

pub ranges : (size hashes : ℕ) → cuckoo_allows size hashes ≡ true → Ranges size hashes
ranges size hashes e =
    let p = and_parts (cuckoo_measures size) (hashes_allowed hashes) e in
    let q = and_parts (nat_le 4 size) (nat_le size 2048 && power_of_two size) p.0 in
    let r = and_parts (nat_le size 2048) (power_of_two size) q.1 in
    let l = leb-true 4 size q.0 in
    let t = (powers size).0 r.1 in
    let u = quarter size t.0 l t.1 in
    record { some = l; most = leb-true size 2048 r.0; whole = u.0; two = u.1; counted = p.1 }

-- the buckets and fingerprints of a sound view
module _ (s : Settings) (ok : cuckoo_allows s.size s.hashing.hashes ≡ true) where
  pub print_low : (h : HashPair) → fingerprint h.h2 < 256
  print_low h = omega arith

  pub print_some : (h : HashPair) → fingerprint h.h2 ≢ 0
  print_some h e = omega arith

  pub home_low : (h : HashPair) → bucket_of s h < buckets s
  home_low h = let r = ranges s.size s.hashing.hashes ok in mod_below h.h1 (buckets s) (omega arith)

  pub mates_low : (i f : ℕ) → i < buckets s → partner (buckets s) i f < buckets s
  mates_low = let r = ranges s.size s.hashing.hashes ok in partner_low (buckets s) r.two.0 r.two.1

  -- a put that is taken: what is found before, and that one, is found after
  pub put_keeps : (t u : List ℕ) (h : HashPair) → length t ≡ s.size → stored_pair (record { settings = s; table = t }) h ≡ Some u → (j g : ℕ) → j < buckets s → (g ≢ 0) → At (partner (buckets s)) (buckets s) mates_low (λ i f _. partner_twice (buckets s) i f) t j g ⊎ ((fingerprint h.h2 ≡ g) × (bucket_of s h ≡ j)) → At (partner (buckets s)) (buckets s) mates_low (λ i f _. partner_twice (buckets s) i f) u j g
  put_keeps t u h long e =
      let r = ranges s.size s.hashing.hashes ok in
      stored_keeps (partner (buckets s)) (buckets s) mates_low (λ i f _. partner_twice (buckets s) i f) t u (bucket_of s h) (fingerprint h.h2) (omega arith) (home_low h) e

  pub put_has : (t u : List ℕ) (h : HashPair) → length t ≡ s.size → stored_pair (record { settings = s; table = t }) h ≡ Some u → says_pair (record { settings = s; table = u }) h ≡ true
  put_has t u h long e =
      stands_at (partner (buckets s)) (buckets s) mates_low (λ i f _. partner_twice (buckets s) i f) u (bucket_of s h) (fingerprint h.h2)
      (put_keeps t u h long e (bucket_of s h) (fingerprint h.h2) (home_low h) (print_some h) (inr (refl, refl)))

  pub put_still : (t u : List ℕ) (h g : HashPair) → length t ≡ s.size → stored_pair (record { settings = s; table = t }) h ≡ Some u → says_pair (record { settings = s; table = t }) g ≡ true → says_pair (record { settings = s; table = u }) g ≡ true
  put_still t u h g long e says =
      let r = ranges s.size s.hashing.hashes ok in
      stands_at (partner (buckets s)) (buckets s) mates_low (λ i f _. partner_twice (buckets s) i f) u (bucket_of s g) (fingerprint g.h2)
      (put_keeps t u h long e (bucket_of s g) (fingerprint g.h2) (home_low g) (print_some g)
      (inl (at_stands (partner (buckets s)) (buckets s) mates_low (λ i f _. partner_twice (buckets s) i f) t (bucket_of s g) (fingerprint g.h2) (omega arith) (home_low g) says)))

  pub put_sized : (t u : List ℕ) (h : HashPair) → length t ≡ s.size → bytes t ≡ true → stored_pair (record { settings = s; table = t }) h ≡ Some u → (length u ≡ s.size) × (bytes u ≡ true)
  put_sized t u h long real e = stored_sized (partner (buckets s)) (buckets s) mates_low (λ i f _. partner_twice (buckets s) i f) s.size t u (bucket_of s h) (fingerprint h.h2) (omega arith) (long, real) e

none_held : (n c k f : ℕ) → (f ≢ 0) → holds (replicate n 0) c k f ≡ false
none_held n c zero f h = refl
none_held n c (suc k) f h = or_from (slice_index (replicate n 0) c == f) (holds (replicate n 0) (c + 1) k f) (ne_eqb (slice_index (replicate n 0) c) f (λ e. h (sym e ∙ slice_index-zeros n c))) (none_held n (c + 1) k f h)

none_there : (s : Settings) (n : ℕ) (h : HashPair) → says_pair (record { settings = s; table = replicate n 0 }) h ≡ false
none_there s n h =
    let f = fingerprint h.h2 in
    let i = bucket_of s h in
    let j = partner (buckets s) i f in
    let some : f ≢ 0 = λ e. omega arith in
    or_from (holds (replicate n 0) (4 * i) 4 f) (holds (replicate n 0) (4 * j) 4 f) (none_held n (4 * i) 4 f some) (none_held n (4 * j) 4 f some)

pub first_allowed : cuckoo_allows 4 1 ≡ true
first_allowed = and_from (cuckoo_measures 4) (hashes_allowed 1) ((powers 4).1 (2, refl)) refl

pub cuckoo_keeps : Keeps cuckoo_scheme
cuckoo_keeps = record {
  within = λ size e. leb-true size 2048 (and_parts (nat_le size 2048) (power_of_two size) (and_parts (nat_le 4 size) (nat_le size 2048 && power_of_two size) e).1).0;
  first = (powers 4).1 (2, refl);
  none = λ s h e. none_there s s.size h;
  sized = λ v h u w e. put_sized v.settings w.allowed v.table u h w.long w.real e;
  has = λ v h u w e. put_has v.settings w.allowed v.table u h w.long e;
  still = λ v h g u w e s. put_still v.settings w.allowed v.table u h g w.long e s;
}

pub cuckoo_rules : Rules cuckoo_kind
cuckoo_rules = table_rules cuckoo_scheme cuckoo_keeps

pub cuckoo_sound : (s : Settings) (cells : List ℕ) → length cells ≡ 2048 → bytes cells ≡ true → cuckoo_allows s.size s.hashing.hashes ≡ true → cuckoo_kind.sound (cuckoo_view s cells) ≡ true
cuckoo_sound = table_sound cuckoo_scheme cuckoo_keeps
