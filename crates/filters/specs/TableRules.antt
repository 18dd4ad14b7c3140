-- A kind of filter over a table keeps the rules of a filter, if its puts and answers keep theirs.
use Rattle.std.specs.Prelude.{◌≡◌, ℕ, zero, suc, ◌≤◌, Bool, true, false, cond, List, length, replicate, slice_index, is_some, Some, None, Option, ◌==◌, refl}
use Rattle.std.specs.Option.{unwrap_or}
use Rattle.std.proofs.Common.{sym, ap, ◌∙◌, length-take, arith, eqb-true, eq-eqb}
use Rattle.std.proofs.lemmas.List.{length-replicate}
use Rattle.std.proofs.lemmas.Bool.{and_parts, and_from, false≢true}
use Rattle.passes.specs.Bytes.{bytes}
use Rattle.passes.specs.ByteLaws.{bytes_zeros, bytes_take}
use Rattle.passes.specs.declared.identifier.HashPair.{HashPair}
use Rattle.filters.specs.declared.Settings.{Settings}
use Rattle.filters.specs.Kind.{Rules, hashes_allowed, judged}
use Rattle.filters.specs.Answers.{after_put}
use Rattle.filters.specs.Judged.{fitting, accepted_from}
use Rattle.filters.specs.Tables.{TableView, Scheme, first_settings, pair_of, table_view, zeroed, with_table, refilled, after_try, table_allows, table_kind}

-- an empty table holds 0 at each place
pub slice_index-zeros : (n i : ℕ) → ◌≡◌ {A = ℕ} (slice_index (replicate n 0) i) 0
slice_index-zeros zero i = refl
slice_index-zeros (suc n) zero = refl
slice_index-zeros (suc n) (suc i) = slice_index-zeros n i

-- a view with allowed settings, and a table of as many bytes as they say
pub record Whole (k : Scheme) (v : TableView) : Type 0 where
  pub allowed : table_allows k v.settings.size v.settings.hashing.hashes ≡ true
  pub long : length v.table ≡ v.settings.size
  pub real : bytes v.table ≡ true

-- what the puts and answers of a scheme keep
pub record Keeps (k : Scheme) : Type 0 where
  pub within : (size : ℕ) → k.measures size ≡ true → size ≤ 2048
  pub first : k.measures k.first ≡ true
  -- an empty table says yes to none
  pub none : (s : Settings) (h : HashPair) → table_allows k s.size s.hashing.hashes ≡ true → k.says (zeroed s) h ≡ false
  -- a put that is taken leaves a table of bytes of the same size
  pub sized : (v : TableView) (h : HashPair) (u : List ℕ) → Whole k v → k.puts v h ≡ Some u → (length u ≡ v.settings.size) × (bytes u ≡ true)
  -- after it the table says yes to that one, and to all it said yes to before
  pub has : (v : TableView) (h : HashPair) (u : List ℕ) → Whole k v → k.puts v h ≡ Some u → k.says (with_table v u) h ≡ true
  pub still : (v : TableView) (h g : HashPair) (u : List ℕ) → Whole k v → k.puts v h ≡ Some u → k.says v g ≡ true → k.says (with_table v u) g ≡ true

some_value : (o : Option (List ℕ)) (t : List ℕ) → is_some o ≡ true → o ≡ Some (unwrap_or o t)
some_value (Some u) t e = refl
some_value None t e = absurd (false≢true e)

-- what the answer of a try tells
pub try_taken : (o : Option (List ℕ)) (v w : TableView) → ◌≡◌ {A = Bool × TableView} (true, w) (after_try o v) → (o ≡ Some w.table) × (w.settings ≡ v.settings)
try_taken (Some u) v w e = let f : w ≡ with_table v u = ap (λ (r : Bool × TableView). r.1) e in (ap (λ (x : TableView). Some x.table) (sym f), ap (λ (x : TableView). x.settings) f)
try_taken None v w e = absurd (false≢true (sym (ap (λ (r : Bool × TableView). r.0) e)))

pub try_left : (o : Option (List ℕ)) (v w : TableView) → ◌≡◌ {A = Bool × TableView} (false, w) (after_try o v) → (o ≡ None) × (w ≡ v)
try_left (Some u) v w e = absurd (false≢true (ap (λ (r : Bool × TableView). r.0) e))
try_left None v w e = (refl, ap (λ (r : Bool × TableView). r.1) e)

put_of : (o : Option (List ℕ)) (v : TableView) → after_try o v ≡ (is_some o, cond (is_some o) (with_table v (unwrap_or o v.table)) v)
put_of (Some u) v = refl
put_of None v = refl

module _ (k : Scheme) where
  -- a put that is tried by the scheme
  pub try_put : (v : TableView) (x : List ℕ) → after_try (k.puts v (pair_of v.settings x)) v ≡ after_put (table_kind k) v x
  try_put v x = put_of (k.puts v (pair_of v.settings x)) v

  pub whole : (v : TableView) → (table_kind k).sound v ≡ true → Whole k v
  whole v e =
      let p = and_parts (table_allows k v.settings.size v.settings.hashing.hashes) _ e in
      let q = and_parts (length v.table == v.settings.size) (bytes v.table) p.1 in
      record { allowed = p.0; long = eqb-true _ _ q.0; real = q.1 }

  pub sound_from : (v : TableView) → Whole k v → (table_kind k).sound v ≡ true
  sound_from v w = and_from (table_allows k v.settings.size v.settings.hashing.hashes) _ w.allowed (and_from (length v.table == v.settings.size) (bytes v.table) (eq-eqb _ _ w.long) w.real)

  -- bytes that are accepted have an allowed size
  pub load_allowed : (hashes : ℕ) (body : List ℕ) → judged (table_kind k) hashes body ≡ None → table_allows k (length body) hashes ≡ true
  load_allowed hashes body e = let f = fitting (table_kind k) hashes body e in and_from (k.measures (length body)) (hashes_allowed hashes) f.measured f.counted

  saved_accepted : (v : TableView) → Whole k v → judged (table_kind k) v.settings.hashing.hashes v.table ≡ None
  saved_accepted v w =
      let p = and_parts (k.measures v.settings.size) (hashes_allowed v.settings.hashing.hashes) w.allowed in
      accepted_from (table_kind k) v.settings.hashing.hashes v.table (record { counted = p.1; measured = ap k.measures w.long ∙ p.0; well = refl })

  -- a table loaded under the hashing under which it was saved answers as before, whatever it is asked
  pub table_restored : (v : TableView) (x : List ℕ) → Whole k v → (table_kind k).says ((table_kind k).loaded v.settings.hashing v.table) x ≡ (table_kind k).says v x
  table_restored v x w = ap (λ (n : ℕ). k.says (record { settings = record { hashing = v.settings.hashing; size = n }; table = v.table }) (pair_of v.settings x)) w.long

  module _ (keeps : Keeps k) where
    -- a put that is taken leaves a sound table, whatever is put
    pub sound_after : (v : TableView) (x : List ℕ) → Whole k v → (table_kind k).takes v x ≡ true → (table_kind k).sound ((table_kind k).put v x) ≡ true
    sound_after v x w t =
        let h = pair_of v.settings x in
        let u = unwrap_or (k.puts v h) v.table in
        let z = keeps.sized v h u w (some_value (k.puts v h) v.table t) in
        sound_from (with_table v u) (record { allowed = w.allowed; long = z.0; real = z.1 })

    -- after it the table says yes to that one, and to all it said yes to before
    pub has_after : (v : TableView) (x : List ℕ) → Whole k v → (table_kind k).takes v x ≡ true → (table_kind k).says ((table_kind k).put v x) x ≡ true
    has_after v x w t = let h = pair_of v.settings x in keeps.has v h (unwrap_or (k.puts v h) v.table) w (some_value (k.puts v h) v.table t)

    pub still_after : (v : TableView) (x y : List ℕ) → Whole k v → (table_kind k).takes v x ≡ true → (table_kind k).says v y ≡ true → (table_kind k).says ((table_kind k).put v x) y ≡ true
    still_after v x y w t = let h = pair_of v.settings x in keeps.still v h (pair_of v.settings y) (unwrap_or (k.puts v h) v.table) w (some_value (k.puts v h) v.table t)

    first_allowed : table_allows k k.first 1 ≡ true
    first_allowed = and_from (k.measures k.first) (hashes_allowed 1) keeps.first refl

    pub table_rules : Rules (table_kind k)
    table_rules = record {
      within = λ size hashes e. let p = and_parts (k.measures size) (hashes_allowed hashes) e in (keeps.within size p.0, p.1);
      sound_blank = sound_from (zeroed (first_settings k.first)) (record { allowed = first_allowed; long = length-replicate k.first 0; real = bytes_zeros k.first });
      sound_cleared = λ s e. sound_from (zeroed s) (record { allowed = e; long = length-replicate s.size 0; real = bytes_zeros s.size });
      sound_put = λ v x e _ t. sound_after v x (whole v e) t;
      sound_loaded = λ h body b e. sound_from (refilled h body) (record { allowed = load_allowed h.hashes body e; long = refl; real = b });
      ready_cleared = λ s e. refl;
      ready_put = λ v x _ _ _ _. refl;
      ready_loaded = λ h body b e. refl;
      set = λ s e. refl;
      kept = λ v x _ _ _ _. refl;
      none_blank = λ x _. keeps.none (first_settings k.first) (pair_of (first_settings k.first) x) first_allowed;
      none_cleared = λ s x e _. keeps.none s (pair_of s x) e;
      has = λ v x e _ t. has_after v x (whole v e) t;
      still = λ v x y e _ _ t. still_after v x y (whole v e) t;
      fits = λ v e _. let w = whole v e in (omega (arith, w.long), w.real);
      accepted = λ v e _. saved_accepted v (whole v e);
      under = λ h body b e. refl;
      restored = λ v x e _ _. table_restored v x (whole v e);
    }

    -- settings that are allowed, and a table in memory, have a sound view
    pub table_sound : (s : Settings) (table : List ℕ) → length table ≡ 2048 → bytes table ≡ true → table_allows k s.size s.hashing.hashes ≡ true → (table_kind k).sound (table_view s table) ≡ true
    table_sound s table long real ok =
        let l = keeps.within s.size (and_parts (k.measures s.size) (hashes_allowed s.hashing.hashes) ok).0 in
        sound_from (table_view s table) (record { allowed = ok; long = simp length-take (omega arith); real = bytes_take s.size table real })
