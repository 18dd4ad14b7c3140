-- The cells of a cuckoo table: buckets of four, each cell a byte, 0 if it is empty.
use Rattle.std.specs.Prelude.{ℕ, zero, suc, ◌+◌, ◌*◌, ◌%◌, ◌^◌, Bool, false, cond, ◌||◌, List, Some, None, Option, ◌==◌, bit_xor, slice_index, slice_index_or, slice_set}

-- what stands for an identifier in a cell, never 0
abbrev pub fingerprint : ℕ → ℕ
fingerprint h2 = 1 + h2 % 255

abbrev pub spread : ℕ → ℕ
spread f = (f * 0x5BD1E995) % 2 ^ 32

-- the other bucket in which fingerprint f of bucket i may stand, among b buckets
abbrev pub partner : ℕ → ℕ → ℕ → ℕ
partner b i f = bit_xor i (spread f % b)

-- one of k cells from c on holds f
abbrev pub holds : List ℕ → ℕ → ℕ → ℕ → Bool
holds t c zero f = false
holds t c (suc k) f = slice_index t c == f || holds t (c + 1) k f

-- the lowest empty one of k cells from c on takes f
unfoldable pub put_into : List ℕ → ℕ → ℕ → ℕ → Option (List ℕ)
put_into t c zero f = None
put_into t c (suc k) f = cond (slice_index t c == 0) (Some (slice_set t c f)) (put_into t (c + 1) k f)

abbrev pub or_else : {A : Type 0} → Option A → Option A → Option A
or_else (Some a) o = Some a
or_else None o = o

-- mate gives the partner of a bucket for a fingerprint
module _ (mate : ℕ → ℕ → ℕ) where
  -- k kicks from bucket i on, the next with number n, f being carried: a kick exchanges it with cell n mod 4
  -- and goes on to the partner for the fingerprint carried then, where the lowest empty cell ends the search
  unfoldable pub kicked : ℕ → ℕ → ℕ → ℕ → List ℕ → Option (List ℕ)
  kicked zero n i f t = None
  kicked (suc k) n i f t =
      let c = 4 * i + n % 4 in
      let g = slice_index_or t c 0 in
      let j = mate i g in
      or_else (put_into (slice_set t c f) (4 * j) 4 g) (kicked k (n + 1) j g (slice_set t c f))

  -- f stands in bucket i or its partner
  abbrev pub stands : List ℕ → ℕ → ℕ → Bool
  stands t i f = holds t (4 * i) 4 f || holds t (4 * mate i f) 4 f

  -- the lowest empty cell of bucket i takes f, else the lowest of its partner
  abbrev pub settled : List ℕ → ℕ → ℕ → Option (List ℕ)
  settled t i f = or_else (put_into t (4 * i) 4 f) (put_into t (4 * mate i f) 4 f)

  -- the table after a put of f at bucket i, if it is taken
  abbrev pub stored : List ℕ → ℕ → ℕ → Option (List ℕ)
  stored t i f = cond (stands t i f) (Some t) (or_else (settled t i f) (kicked 64 0 i f t))
