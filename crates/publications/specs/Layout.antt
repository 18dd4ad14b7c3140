-- What a publication may hold, and which bytes are the writing of such a content.
use Rattle.std.specs.Prelude.{◌≡◌, ℕ, ◌^◌, ◌<◌, ◌≤◌, true, List, [], ◌∷◌, length, Some, None, Ok, ◌≢◌, slice_index_or}
use Rattle.passes.specs.Bytes.{bytes}
use Rattle.filters.specs.declared.Hashing.{Hashing}
use Rattle.levels.specs.Rows.{Row, LawfulRows}
use Rattle.levels.specs.Deciders.{Table, Decides, table_fields, Saves}
use Rattle.passes.specs.declared.kind.PassKind.TheVariants.{Tag}
use Rattle.publications.specs.declared.CoverageRow.{CoverageRow}
use Rattle.publications.specs.declared.Publication.{Publication}
use Rattle.publications.specs.declared.PublicationHead.{PublicationHead}
use Rattle.publications.specs.Publications.{Content, published, writes}
use Rattle.publications.specs.Reading.{Makes, rows_in, reads}

-- a make of one byte whose tables are judged so, a hash count from 1 to 8, a salt of two bytes, a number from 1 in four
pub record AllowedHead (makes : Makes) (h : PublicationHead) (ts : List Table) : Type 0 where
  pub known : makes h.make ≡ Some ts
  pub make_byte : h.make < 256
  pub hashed : (1 ≤ h.hashes) × (h.hashes ≤ 8)
  pub salted : h.salt < 2 ^ 16
  pub numbered : (1 ≤ h.number) × (h.number < 2 ^ 32)

-- numbers of two bytes, the first day not above the last
pub record AllowedRow (r : CoverageRow) : Type 0 where
  pub issued : r.issuer < 2 ^ 16
  pub in_order : r.first ≤ r.last
  pub in_time : r.last < 2 ^ 16

-- only there to name the row at a place of a list that has one
abbrev pub no_row : CoverageRow
no_row = record { kind = Tag; issuer = 0; first = 0; last = 0 }

abbrev pub row_of : List CoverageRow → ℕ → CoverageRow
row_of rs i = slice_index_or rs i no_row

-- 1 to 64 rows; a kind and issuer stand at most once
pub record AllowedCoverage (rs : List CoverageRow) : Type 0 where
  pub some : 1 ≤ length rs
  pub few : length rs ≤ 64
  pub each : (i : ℕ) → i < length rs → AllowedRow (row_of rs i)
  pub once : (i j : ℕ) → i < j → j < length rs → (row_of rs i).kind ≡ (row_of rs j).kind → (row_of rs i).issuer ≢ (row_of rs j).issuer

-- a table that its level accepts, in a field
pub record Accepted (t : Table) (hashes : ℕ) (b : List ℕ) : Type 0 where
  pub measured : t.measures (length b) ≡ true
  pub well : t.judged hashes b ≡ None
  pub in_bytes : bytes b ≡ true
  pub short : length b < 65536

-- one table for each level
abbrev pub AcceptedTables : List Table → ℕ → List (List ℕ) → Type 0
AcceptedTables [] hashes [] = Unit {0}
AcceptedTables [] hashes (b ∷ bs) = ⊥
AcceptedTables (t ∷ ts) hashes [] = ⊥
AcceptedTables (t ∷ ts) hashes (b ∷ bs) = Accepted t hashes b × AcceptedTables ts hashes bs

pub record Allowed (makes : Makes) (p : Content) : Type 0 where
  pub judges : List Table
  pub head : AllowedHead makes p.head judges
  pub coverage : AllowedCoverage p.coverage
  pub tables : AcceptedTables judges p.head.hashes p.tables

-- bytes that are the writing of a content that is allowed
pub record Written (makes : Makes) (bs : List ℕ) : Type 0 where
  pub content : Content
  pub allowed : Allowed makes content
  pub bytes_are : writes content ≡ bs

-- what a publication that was read holds: its rows and tables stand in the parts of the input that it names
pub record Holds (makes : Makes) (input : List ℕ) (p : Publication) : Type 0 where
  pub content : Content
  pub read : reads makes input ≡ Ok content
  pub head : p.head ≡ content.head
  pub coverage : rows_in p.coverage.now ≡ Ok content.coverage
  pub tables : p.tables.now ≡ table_fields 1 content.tables

pub record LayoutLaw (makes : Makes) : Type 0 where
  -- reading what was written gives back what was written
  pub read_back : (p : Content) → Allowed makes p → reads makes (writes p) ≡ Ok p
  -- what is read from bytes is allowed, and its writing is those bytes
  pub written_again : (bs : List ℕ) (p : Content) → bytes bs ≡ true → reads makes bs ≡ Ok p → Allowed makes p × (writes p ≡ bs)
  -- bytes are the writing of one allowed content at most
  pub unique : (p q : Content) → Allowed makes p → Allowed makes q → writes p ≡ writes q → p ≡ q
  -- a writing is made of bytes
  pub in_bytes : (p : Content) → Allowed makes p → bytes (writes p) ≡ true

-- What is written of levels that were built.
pub record WriterLaw {S : Type 0} (d : Decides S) (saves : Saves S) : Type 0 where
  -- every reader that knows their make reads it back
  pub read_back : (at : Hashing) (sizes : List ℕ) (register : List Row) (s : S) → LawfulRows register → d.build at sizes register ≡ Ok s → (makes : Makes) (h : PublicationHead) (rs : List CoverageRow) → AllowedHead makes h saves.tables → h.hashes ≡ at.hashes → AllowedCoverage rs → reads makes (published h rs (d.saved 1 s)) ≡ Ok (record { head = h; coverage = rs; tables = saves.bodies s })
  -- with six levels over the end it has at most 14,315 bytes
  pub longest : (at : Hashing) (sizes : List ℕ) (register : List Row) (s : S) → LawfulRows register → d.build at sizes register ≡ Ok s → length sizes ≡ 6 → (h : PublicationHead) (rs : List CoverageRow) → length rs ≤ 64 → length (published h rs (d.saved 1 s)) ≤ 14315
