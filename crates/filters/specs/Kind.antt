-- What a kind of filter means, and the rules that every kind keeps.
use Rattle.std.specs.Prelude.{◌≡◌, ℕ, ◌≤◌, Bool, true, false, cond, ◌&&◌, List, length, Some, None, Option, ◌≢◌, nat_le}
use Rattle.refusals.specs.declared.Reason.{Reason}
use Rattle.refusals.specs.declared.Reason.TheVariants.{BadLength, BadValue, NotAscending, BadSetting}
use Rattle.passes.specs.Bytes.{bytes}
use Rattle.passes.specs.Lawful.{Lawful}
use Rattle.filters.specs.declared.Hashing.{Hashing}
use Rattle.filters.specs.declared.Settings.{Settings}

-- saved bytes of a fitting length, judged by their content
pub data Content : Type 0 where
  fine misvalued unsorted : Content

-- A kind of filter whose states are seen as values of V, without their memory layout.
-- An identifier is named by its written form.
pub record Kind (V : Type 0) : Type 0 where
  -- the table sizes and hash counts that it allows
  pub allows : ℕ → ℕ → Bool
  -- what holds of every filter of this kind in memory
  pub sound : V → Bool
  -- it has been cleared or loaded, so that it has settings and saved bytes of its own
  pub ready : V → Bool
  pub settings : V → Settings
  -- before any clear
  pub blank : V
  pub cleared : Settings → V
  -- the identifiers that it says yes to
  pub says : V → List ℕ → Bool
  -- the identifiers that it would take now
  pub takes : V → List ℕ → Bool
  -- after a put that is taken
  pub put : V → List ℕ → V
  pub saved : V → List ℕ
  -- the lengths of saved bytes that fit
  pub measures : ℕ → Bool
  pub judges : List ℕ → Content
  -- after an accepted load
  pub loaded : Hashing → List ℕ → V

abbrev pub hashes_allowed : ℕ → Bool
hashes_allowed n = nat_le 1 n && nat_le n 8

abbrev pub content_reason : Content → Option Reason
content_reason fine = None
content_reason misvalued = Some BadValue
content_reason unsorted = Some NotAscending

-- Why bytes are not accepted for load: by the hash count, then by their length, then by their content.
abbrev pub judged : {V : Type 0} → Kind V → ℕ → List ℕ → Option Reason
judged k hashes body = cond (hashes_allowed hashes) (cond (k.measures (length body)) (content_reason (k.judges body)) (Some BadLength)) (Some BadSetting)

abbrev pub allowed : {V : Type 0} → Kind V → Settings → Bool
allowed k s = k.allows s.size s.hashing.hashes

-- The rules of a filter, stated of identifiers, so of lawful forms alone.
pub record Rules {V : Type 0} (k : Kind V) : Type 0 where
  -- at most 2,048 bytes, from 1 to 8 hashes
  pub within : (size hashes : ℕ) → k.allows size hashes ≡ true → (size ≤ 2048) × (hashes_allowed hashes ≡ true)
  pub sound_blank : k.sound k.blank ≡ true
  pub sound_cleared : (s : Settings) → allowed k s ≡ true → k.sound (k.cleared s) ≡ true
  pub sound_put : (v : V) (x : List ℕ) → k.sound v ≡ true → Lawful x → k.takes v x ≡ true → k.sound (k.put v x) ≡ true
  pub sound_loaded : (h : Hashing) (body : List ℕ) → bytes body ≡ true → judged k h.hashes body ≡ None → k.sound (k.loaded h body) ≡ true
  pub ready_cleared : (s : Settings) → allowed k s ≡ true → k.ready (k.cleared s) ≡ true
  pub ready_put : (v : V) (x : List ℕ) → k.sound v ≡ true → Lawful x → k.takes v x ≡ true → k.ready v ≡ true → k.ready (k.put v x) ≡ true
  pub ready_loaded : (h : Hashing) (body : List ℕ) → bytes body ≡ true → judged k h.hashes body ≡ None → k.ready (k.loaded h body) ≡ true
  -- clear sets the settings, which puts keep
  pub set : (s : Settings) → allowed k s ≡ true → k.settings (k.cleared s) ≡ s
  pub kept : (v : V) (x : List ℕ) → k.sound v ≡ true → k.ready v ≡ true → Lawful x → k.takes v x ≡ true → k.settings (k.put v x) ≡ k.settings v
  -- a filter says yes to none before any clear, and after each
  pub none_blank : (x : List ℕ) → Lawful x → k.says k.blank x ≡ false
  pub none_cleared : (s : Settings) (x : List ℕ) → allowed k s ≡ true → Lawful x → k.says (k.cleared s) x ≡ false
  -- after a put that is taken it says yes to that one, and to all it said yes to before
  pub has : (v : V) (x : List ℕ) → k.sound v ≡ true → Lawful x → k.takes v x ≡ true → k.says (k.put v x) x ≡ true
  pub still : (v : V) (x y : List ℕ) → k.sound v ≡ true → Lawful x → Lawful y → k.takes v x ≡ true → k.says v y ≡ true → k.says (k.put v x) y ≡ true
  -- it saves bytes, at most the table size, that load accepts under the same hash count
  pub fits : (v : V) → k.sound v ≡ true → k.ready v ≡ true → (length (k.saved v) ≤ (k.settings v).size) × (bytes (k.saved v) ≡ true)
  pub accepted : (v : V) → k.sound v ≡ true → k.ready v ≡ true → judged k (k.settings v).hashing.hashes (k.saved v) ≡ None
  -- load sets the salt, level and hash count
  pub under : (h : Hashing) (body : List ℕ) → bytes body ≡ true → judged k h.hashes body ≡ None → (k.settings (k.loaded h body)).hashing ≡ h
  -- saved bytes loaded under the same salt, level and hash count restore the same yes answers
  pub restored : (v : V) (x : List ℕ) → k.sound v ≡ true → k.ready v ≡ true → Lawful x → k.says (k.loaded (k.settings v).hashing (k.saved v)) x ≡ k.says v x

-- An exact filter: put adds that identifier alone.
pub record Alone {V : Type 0} (k : Kind V) : Type 0 where
  pub alone : (v : V) (x y : List ℕ) → k.sound v ≡ true → Lawful x → Lawful y → k.takes v x ≡ true → k.says (k.put v x) y ≡ true → (x ≢ y) → k.says v y ≡ true
