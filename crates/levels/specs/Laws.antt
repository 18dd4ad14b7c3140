-- What every decider keeps.
use Rattle.std.specs.Prelude.{◌≡◌, ℕ, ◌+◌, ◌≤◌, Bool, true, false, List, [], ◌∷◌, ◌++◌, length, None, Ok}
use Rattle.passes.specs.Bytes.{bytes}
use Rattle.passes.specs.Lawful.{Lawful}
use Rattle.filters.specs.declared.Hashing.{Hashing}
use Rattle.fields.specs.Reading.{then}
use Rattle.levels.specs.declared.Side.TheVariants.{For, Against}
use Rattle.levels.specs.Rows.{Row, In, Distinct, LawfulRows}
use Rattle.levels.specs.Deciders.{Decides, Saves, Table, tables_at, table_fields, next}

-- a row is decided by its side
pub record Right {S : Type 0} (d : Decides S) (s : S) (r : Row) : Type 0 where
  pub for : r.mark ≡ 1 → (d.decides s r.form).0 ≡ For
  pub against : r.mark ≡ 2 → (d.decides s r.form).0 ≡ Against

-- the first level that says no, counted from 1, or one past the last
abbrev pub first_no : List Bool → ℕ
first_no [] = 1
first_no (false ∷ bs) = 1
first_no (true ∷ bs) = next (first_no bs)

-- what was saved is read back, wherever it stands in an input, to a state that decides alike
pub record Restores {S : Type 0} (d : Decides S) (h : Hashing) (s : S) (front back : List ℕ) : Type 0 where
  pub state : S
  pub loaded : d.loads h (front ++ (d.saved h.level s ++ back)) (length front) ≡ Ok (state, length front + length (d.saved h.level s))
  pub alike : (x : List ℕ) → Lawful x → d.decides state x ≡ d.decides s x

-- a table that its level accepts under a hash count, no longer than its size
pub record Fits (t : Table) (hashes size : ℕ) (b : List ℕ) : Type 0 where
  pub measured : t.measures (length b) ≡ true
  pub accepted : t.judged hashes b ≡ None
  pub in_bytes : bytes b ≡ true
  pub short : length b ≤ size
  pub small : size ≤ 2048

-- each table fits under one hash count, with a size for each
abbrev pub AllFit : List Table → ℕ → List ℕ → List (List ℕ) → Type 0
AllFit [] hashes [] [] = Unit {0}
AllFit [] hashes [] (b ∷ bs) = ⊥
AllFit [] hashes (n ∷ ns) bs = ⊥
AllFit (t ∷ ts) hashes [] bs = ⊥
AllFit (t ∷ ts) hashes (n ∷ ns) [] = ⊥
AllFit (t ∷ ts) hashes (n ∷ ns) (b ∷ bs) = Fits t hashes n b × AllFit ts hashes ns bs

pub record Keeps {S : Type 0} (d : Decides S) : Type 0 where
  -- before any build or load it decides for none
  pub none : (x : List ℕ) → Lawful x → (d.decides d.blank x).0 ≡ Against
  -- the source is the first level whose filter says no
  pub source : (s : S) (x : List ℕ) → (d.decides s x).1 ≡ first_no (d.answers s x)
  -- built from a list, it decides every listed one by its side
  pub right : (h : Hashing) (sizes : List ℕ) (rs : List Row) (s : S) → Distinct rs → LawfulRows rs → d.build h sizes rs ≡ Ok s → (r : Row) → In r rs → Right d s r
  -- saved and loaded, it decides every identifier as before, from the same source
  pub restored : (h : Hashing) (sizes : List ℕ) (rs : List Row) (s : S) → LawfulRows rs → d.build h sizes rs ≡ Ok s → (front back : List ℕ) → Restores d h s front back

-- What a decider keeps whose levels save a table each.
pub record SavesTables {S : Type 0} (d : Decides S) (saves : Saves S) : Type 0 where
  -- what is saved is the fields of its tables
  pub as_fields : (level : ℕ) (s : S) → d.saved level s ≡ table_fields level (saves.bodies s)
  -- what is loaded is read table by table
  pub from_fields : (h : Hashing) (input : List ℕ) (at : ℕ) → d.loads h input at ≡ then (tables_at saves.tables h.level h.hashes input at) (λ bs. Ok (saves.restore h bs, at + length (table_fields h.level bs)))
  -- built tables fit
  pub fitting : (h : Hashing) (sizes : List ℕ) (rs : List Row) (s : S) → LawfulRows rs → d.build h sizes rs ≡ Ok s → AllFit saves.tables h.hashes (sizes ++ 1536 ∷ []) (saves.bodies s)
