-- A table of bytes of which the front is in use, when that front is written anew.
use Rattle.std.specs.Prelude.{◌≡◌, ℕ, ◌-◌, ◌<◌, ◌≤◌, true, List, slice_set, ◌++◌, length, take, drop}
use Rattle.std.proofs.Common.{length-set, length-drop, length-append, arith, ◌∙◌}
use Rattle.std.proofs.lemmas.List.{take_at}
use Rattle.passes.specs.Bytes.{bytes}
use Rattle.passes.specs.ByteLaws.{bytes_append, bytes_drop, bytes_set}

-- a byte of a table, written anew
pub set_real : (table : List ℕ) (i b : ℕ) → b < 256 → (length table ≡ 2048) × (bytes table ≡ true) → (length (slice_set table i b) ≡ 2048) × (bytes (slice_set table i b) ≡ true)
set_real table i b l t = (simp length-set t.0, bytes_set table i b t.1 l)

module _ (n : ℕ) (part table : List ℕ) (size : length part ≡ n) (fits : n ≤ length table) where
  pub front_is : take n (part ++ drop (n - 0) table) ≡ part
  front_is = take_at part (drop (n - 0) table) n size

  pub front_length : length (part ++ drop (n - 0) table) ≡ length table
  front_length = simp (length-append, length-drop) (omega arith)

  pub front_bytes : bytes part ≡ true → bytes table ≡ true → bytes (part ++ drop (n - 0) table) ≡ true
  front_bytes p t = bytes_append part (drop (n - 0) table) p (bytes_drop (n - 0) table t)

  pub front_real : bytes part ≡ true → (length table ≡ 2048) × (bytes table ≡ true) → (length (part ++ drop (n - 0) table) ≡ 2048) × (bytes (part ++ drop (n - 0) table) ≡ true)
  front_real p t = (front_length ∙ t.0, front_bytes p t.1)
