-- What is written of levels that were built.
use Rattle.std.proofs.Common.{◌≡◌, ℕ, ◌+◌, ◌*◌, ◌≤◌, List, [], ◌∷◌, ◌++◌, length, Ok, sym, ap, ◌∙◌, subst, arith}
use Rattle.std.proofs.lemmas.List.{length-append}
use Rattle.filters.specs.declared.Hashing.{Hashing}
use Rattle.fields.specs.Fields.{field}
use Rattle.fields.proofs.Readback.{length_field}
use Rattle.levels.specs.Rows.{Row, LawfulRows}
use Rattle.levels.specs.Deciders.{Table, Decides, next, tag_of, table_fields, Saves}
use Rattle.levels.specs.Laws.{SavesTables, AllFit}
use Rattle.publications.specs.declared.CoverageRow.{CoverageRow}
use Rattle.publications.specs.declared.PublicationHead.{PublicationHead}
use Rattle.publications.specs.Publications.{published}
use Rattle.publications.specs.Reading.{Makes, reads}
use Rattle.publications.specs.Layout.{AllowedHead, AllowedCoverage, AcceptedTables, WriterLaw}
use Rattle.publications.proofs.TableLaws.{fit_accepted}
use Rattle.publications.proofs.Layouts.{content_back}
use Rattle.publications.proofs.Writing.{published_length}

-- the fields of tables that fit, the last of them in 1,536 bytes
fields_length : (ts : List Table) (hashes level : ℕ) (sizes : List ℕ) (bs : List (List ℕ)) → AllFit ts hashes (sizes ++ 1536 ∷ []) bs → length (table_fields level bs) ≤ 2051 * length sizes + 1539
fields_length [] hashes level [] bs f = absurd f
fields_length (t ∷ ts) hashes level [] [] f = absurd f
fields_length (t ∷ []) hashes level [] (b ∷ []) (f, more) =
    let a = length-append (field (tag_of level) b) [] in
    let n = length_field (tag_of level) b in
    let s = f.short in
    omega arith
fields_length (t ∷ []) hashes level [] (b ∷ c ∷ bs) (f, more) = absurd more
fields_length (t ∷ u ∷ ts) hashes level [] (b ∷ bs) (f, more) = absurd more
fields_length [] hashes level (n ∷ ns) bs f = absurd f
fields_length (t ∷ ts) hashes level (n ∷ ns) [] f = absurd f
fields_length (t ∷ ts) hashes level (n ∷ ns) (b ∷ bs) (f, more) =
    let a = length-append (field (tag_of level) b) (table_fields (next level) bs) in
    let m = length_field (tag_of level) b in
    let s = f.short in
    let w = f.small in
    let low = fields_length ts hashes (next level) ns bs more in
    omega arith

module _ {S : Type 0} (d : Decides S) (saves : Saves S) (tabled : SavesTables d saves) where
  longest : (at : Hashing) (sizes : List ℕ) (register : List Row) (s : S) → LawfulRows register → d.build at sizes register ≡ Ok s → length sizes ≡ 6 → (h : PublicationHead) (rs : List CoverageRow) → length rs ≤ 64 → length (published h rs (d.saved 1 s)) ≤ 14315
  longest at sizes register s l e six h rs few =
      let f = fields_length saves.tables at.hashes 1 sizes (saves.bodies s) (tabled.fitting at sizes register s l e) in
      let n = ap length (tabled.as_fields 1 s) in
      let a = published_length h rs (d.saved 1 s) in
      omega arith

  read_back : (at : Hashing) (sizes : List ℕ) (register : List Row) (s : S) → LawfulRows register → d.build at sizes register ≡ Ok s → (makes : Makes) (h : PublicationHead) (rs : List CoverageRow) → AllowedHead makes h saves.tables → h.hashes ≡ at.hashes → AllowedCoverage rs → reads makes (published h rs (d.saved 1 s)) ≡ Ok (record { head = h; coverage = rs; tables = saves.bodies s })
  read_back at sizes register s l e makes h rs a same c =
      let P : ℕ → Type 0 = λ n. AcceptedTables saves.tables n (saves.bodies s) in
      let t = subst P (sym same) (fit_accepted saves.tables at.hashes (sizes ++ 1536 ∷ []) (saves.bodies s) (tabled.fitting at sizes register s l e)) in
      ap (λ (x : List ℕ). reads makes (published h rs x)) (tabled.as_fields 1 s) ∙ content_back makes h rs (saves.bodies s) saves.tables a c t

  pub writer_law : WriterLaw d saves
  writer_law = record { read_back = read_back; longest = longest }
