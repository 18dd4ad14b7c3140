-- Builds tried at one salt after the other.
use Rattle.std.specs.Prelude.{◌≡◌, ℕ, zero, suc, ◌+◌, ◌%◌, ◌<◌, cond, List, length, Ok, Err, Result, nat_lt}
use Rattle.refusals.specs.declared.Reason.TheVariants.{NoRoom}
use Rattle.refusals.specs.declared.Refusal.{Refusal}
use Rattle.refusals.specs.Numbers.{plain}
use Rattle.filters.specs.declared.Hashing.{Hashing}
use Rattle.levels.specs.Rows.{Row}
use Rattle.levels.specs.Deciders.{Decides}

-- the same level and hash count at another salt
abbrev pub at_salt : Hashing → ℕ → Hashing
at_salt h salt = record { salt = salt; level = h.level; hashes = h.hashes }

abbrev pub next_salt : ℕ → ℕ
next_salt salt = (salt + 1) % 65536

module _ {S : Type 0} (d : Decides S) (h : Hashing) (sizes : List ℕ) (rs : List Row) where
  -- one try
  abbrev pub tried : ℕ → Result S Refusal → Result (ℕ × S) Refusal
  tried salt (Ok s) = Ok (salt, s)
  tried salt (Err e) = Err e

  abbrev pub or_later : ℕ → Result S Refusal → Result (ℕ × S) Refusal → Result (ℕ × S) Refusal
  or_later salt (Ok s) later = Ok (salt, s)
  or_later salt (Err e) later = later

  -- a try at this salt, and up to n more at the salts behind it
  unfoldable pub retried : ℕ → ℕ → Result (ℕ × S) Refusal
  retried zero salt = tried salt (d.build (at_salt h salt) sizes rs)
  retried (suc n) salt = or_later salt (d.build (at_salt h salt) sizes rs) (retried n (next_salt salt))

  -- the same with work bytes at hand: one is needed for each row
  abbrev pub built_in : ℕ → Result (ℕ × S) Refusal
  built_in work = cond (nat_lt work (length rs)) (Err (plain NoRoom)) (retried 7 h.salt)

-- what eight tries came to: the first salt that succeeds, or the refusal of the eighth if all fail
abbrev pub salt_at : ℕ → ℕ → ℕ
salt_at salt i = (salt + i) % 65536

pub record Succeeds {S : Type 0} (d : Decides S) (h : Hashing) (sizes : List ℕ) (rs : List Row) (salt : ℕ) (s : S) : Type 0 where
  pub tries : ℕ
  pub few : tries < 8
  pub at : salt ≡ salt_at h.salt tries
  pub built : d.build (at_salt h salt) sizes rs ≡ Ok s
  pub before : (i : ℕ) → i < tries → (e : Refusal) × (d.build (at_salt h (salt_at h.salt i)) sizes rs ≡ Err e)

pub record Fails {S : Type 0} (d : Decides S) (h : Hashing) (sizes : List ℕ) (rs : List Row) (e : Refusal) : Type 0 where
  pub all : (i : ℕ) → i < 8 → (f : Refusal) × (d.build (at_salt h (salt_at h.salt i)) sizes rs ≡ Err f)
  pub last : d.build (at_salt h (salt_at h.salt 7)) sizes rs ≡ Err e

-- what the tries of a build mean: a salt that comes is the first that succeeds, and a refusal comes only after eight that fail
pub record Outcome {S : Type 0} (d : Decides S) : Type 0 where
  pub succeeds : (h : Hashing) (sizes : List ℕ) (rs : List Row) (salt : ℕ) (s : S) → h.salt < 65536 → retried d h sizes rs 7 h.salt ≡ Ok (salt, s) → Succeeds d h sizes rs salt s
  pub fails : (h : Hashing) (sizes : List ℕ) (rs : List Row) (e : Refusal) → h.salt < 65536 → retried d h sizes rs 7 h.salt ≡ Err e → Fails d h sizes rs e
