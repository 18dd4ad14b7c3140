-- What a publication holds, and its bytes.
use Rattle.std.specs.Prelude.{ℕ, List, ◌∷◌, ◌++◌}
use Rattle.passes.specs.Bytes.{be2}
use Rattle.passes.specs.Kinds.{kind_byte}
use Rattle.passes.specs.Outputs.{joined}
use Rattle.fields.specs.Fields.{field}
use Rattle.fields.specs.Reading.{be4, checked}
use Rattle.levels.specs.Deciders.{table_fields}
use Rattle.publications.specs.declared.CoverageRow.{CoverageRow}
use Rattle.publications.specs.declared.PublicationHead.{PublicationHead}

-- the tables are those of the levels, from the top down
pub record Content : Type 0 where
  pub head : PublicationHead
  pub coverage : List CoverageRow
  pub tables : List (List ℕ)

-- edition 1, make, hash count, salt, number
abbrev pub head_field : PublicationHead → List ℕ
head_field h = field 0x01 (1 ∷ h.make ∷ h.hashes ∷ (be2 h.salt ++ be4 h.number))

abbrev pub row_bytes : CoverageRow → List ℕ
row_bytes r = kind_byte r.kind ∷ (be2 r.issuer ++ (be2 r.first ++ be2 r.last))

abbrev pub rows_bytes : List CoverageRow → List ℕ
rows_bytes rs = joined row_bytes rs

abbrev pub coverage_field : List CoverageRow → List ℕ
coverage_field rs = field 0x02 (rows_bytes rs)

-- the head, the coverage, the fields of the tables, and the check of them all
abbrev pub published : PublicationHead → List CoverageRow → List ℕ → List ℕ
published h rs tables = checked (head_field h ++ (coverage_field rs ++ tables))

abbrev pub writes : Content → List ℕ
writes p = published p.head p.coverage (table_fields 1 p.tables)
