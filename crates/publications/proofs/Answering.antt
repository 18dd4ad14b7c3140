-- What a reading answers.
use Rattle.std.proofs.Common.{◌≡◌, ℕ, ◌+◌, ◌-◌, ◌≤◌, Bool, true, List, length, take, drop, is_ok, Ok, Err, Decides, Result, sym, ap, ◌∙◌, arith}
use Rattle.std.proofs.lemmas.List.{drop-take, drop_at, length-take-le}
use Rattle.refusals.specs.declared.Refusal.{Refusal}
use Rattle.passes.specs.Bytes.{bytes}
use Rattle.fields.proofs.Steps.{never}
use Rattle.levels.specs.Deciders.{Table, table_in, tables_at, table_fields}
use Rattle.publications.specs.declared.PublicationHead.{PublicationHead}
use Rattle.publications.specs.Publications.{Content}
use Rattle.publications.specs.Reading.{Makes, head_at, coverage_judge, known_tables, reads}
use Rattle.publications.specs.Layout.{Written}
use Rattle.publications.proofs.TableLaws.{ReadTables}
use Rattle.publications.proofs.Layouts.{layout_law, written_again}

-- the same reading at the same place
pub moved : {X : Type 0} (f : List ℕ → ℕ → X) (x y : List ℕ) (m n : ℕ) (t : X) → x ≡ y → m ≡ n → f x m ≡ t → f y n ≡ t
moved f x y m n t e g h = sym (ap (λ (i : List ℕ). f i m) e ∙ ap (f y) g) ∙ h

module _ (makes : Makes) (input : List ℕ) where
  pub refused_decides : {R : Type 0} (r : Result R Refusal) (e : Refusal) → r ≡ Err e → reads makes input ≡ Err e → Decides (is_ok r) (Written makes input)
  refused_decides {R} r e p q = (
    λ t. absurd (let z : ◌≡◌ {A = Bool} (is_ok {T = R} (Err e)) true = sym (ap is_ok p) ∙ t in let y : ⊥ = grind arith in y),
    λ w. absurd (never e w.content (sym q ∙ ap (reads makes) (sym w.bytes_are) ∙ (layout_law makes).read_back w.content w.allowed)),
  )

  pub accepted_written : (p : Content) → bytes input ≡ true → reads makes input ≡ Ok p → Written makes input
  accepted_written p real e = let w = written_again makes input p real e in record { content = p; allowed = w.0; bytes_are = w.1 }

-- What has been read of an input, field after field, when a reader stands at a place of what it reads.
module _ (makes : Makes) (input : List ℕ) where
  pub record AfterHead (h : PublicationHead) (now : List ℕ) (at : ℕ) : Type 0 where
    pub read_head : head_at makes input 0 ≡ Ok h
    pub same : now ≡ input
    pub place : at ≡ 12

  pub after_head : (h : PublicationHead) (start now : List ℕ) (m at : ℕ) → start ≡ input → m ≡ 0 → head_at makes start m ≡ Ok h → now ≡ start → at ≡ m + 12 → AfterHead h now at
  after_head h start now m at e z p i a = record { read_head = moved (head_at makes) start input m 0 (Ok h) e z p; same = i ∙ e; place = omega arith }

  pub record AfterCoverage (h : PublicationHead) (rows now : List ℕ) (at : ℕ) : Type 0 where
    pub read_head : head_at makes input 0 ≡ Ok h
    pub read_rows : table_in coverage_judge 0x02 h.hashes input 12 ≡ Ok rows
    pub same : now ≡ input
    pub place : at ≡ 15 + length rows

  pub after_coverage : (h : PublicationHead) (rows before now : List ℕ) (m at : ℕ) → AfterHead h before m → table_in coverage_judge 0x02 h.hashes before m ≡ Ok rows → now ≡ before → at ≡ m + 3 + length rows → AfterCoverage h rows now at
  after_coverage h rows before now m at s p i a =
      let e = s.place in
      record { read_head = s.read_head; read_rows = moved (table_in coverage_judge 0x02 h.hashes) before input m 12 (Ok rows) s.same s.place p; same = i ∙ s.same; place = omega arith }

  pub record AfterTables (h : PublicationHead) (rows : List ℕ) (bs : List (List ℕ)) (now : List ℕ) (at : ℕ) : Type 0 where
    pub read_head : head_at makes input 0 ≡ Ok h
    pub read_rows : table_in coverage_judge 0x02 h.hashes input 12 ≡ Ok rows
    pub read_tables : tables_at (known_tables (makes h.make)) 1 h.hashes input (15 + length rows) ≡ Ok bs
    pub same : now ≡ input
    pub place : at ≡ 15 + length rows + length (table_fields 1 bs)

  pub after_tables : (h : PublicationHead) (rows : List ℕ) (bs : List (List ℕ)) (before now : List ℕ) (m at : ℕ) → AfterCoverage h rows before m → tables_at (known_tables (makes h.make)) 1 h.hashes before m ≡ Ok bs → now ≡ before → at ≡ m + length (table_fields 1 bs) → AfterTables h rows bs now at
  after_tables h rows bs before now m at s p i a =
      let e = s.place in
      record {
        read_head = s.read_head;
        read_rows = s.read_rows;
        read_tables = moved (tables_at (known_tables (makes h.make)) 1 h.hashes) before input m (15 + length rows) (Ok bs) s.same s.place p;
        same = i ∙ s.same;
        place = omega arith;
      }

-- the part of the input in which tables stand
pub tables_part : (ts : List Table) (hashes : ℕ) (input : List ℕ) (at start end : ℕ) (bs : List (List ℕ)) → ReadTables ts 1 hashes input at bs → at ≤ length input → start ≡ at → end ≡ at + length (table_fields 1 bs) → take (end - start) (drop start input) ≡ table_fields 1 bs
tables_part ts hashes input at start end bs r l s e =
    let tables = table_fields 1 bs in
    let n : end - start ≡ length tables = omega arith in
    ap (λ (k : ℕ). take k (drop start input)) n
    ∙ ap (λ (k : ℕ). take (length tables) (drop k input)) s
    ∙ sym (drop-take at (length tables) input)
    ∙ ap (drop at) r.written
    ∙ drop_at (take at input) tables at (length-take-le at input l)
