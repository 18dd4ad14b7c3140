-- The law of the layout: bytes that are accepted, and their one content.
use Rattle.std.proofs.Common.{◌≡◌, ℕ, ◌+◌, ◌%◌, ◌≤◌, true, ◌&&◌, eqb, leb, List, ◌++◌, length, take, None, Ok, Err, Result, sym, refl, ap, ◌∙◌, subst, arith}
use Rattle.std.proofs.lemmas.List.{append_assoc, length-append}
use Rattle.std.proofs.lemmas.Bool.{eq-eqb, eqb-true, le-leb, leb-true, and_from, and_parts}
use Rattle.refusals.specs.declared.Reason.{Reason}
use Rattle.refusals.specs.declared.Refusal.{Refusal}
use Rattle.passes.specs.Bytes.{bytes}
use Rattle.passes.specs.ByteLaws.{bytes_append}
use Rattle.fields.specs.Fields.{field}
use Rattle.fields.specs.Reading.{then, check_field, checked, check_at}
use Rattle.fields.proofs.Readback.{length_field, check_back, field_bytes, check_bytes}
use Rattle.fields.proofs.Stands.{then_ok, check_stands}
use Rattle.levels.specs.Deciders.{Table, table_in, tables_at, table_fields}
use Rattle.levels.specs.Fields.{table_back, table_stands}
use Rattle.publications.specs.declared.CoverageRow.{CoverageRow}
use Rattle.publications.specs.declared.PublicationHead.{PublicationHead}
use Rattle.publications.specs.Publications.{Content, head_field, rows_bytes, coverage_field, published, writes}
use Rattle.publications.specs.Reading.{Makes, head_at, rows_in, reason_of, coverage_judge, unsaid, known_tables, reads}
use Rattle.publications.specs.Layout.{AllowedHead, AllowedCoverage, AcceptedTables, Allowed, LayoutLaw}
use Rattle.publications.proofs.RowLaws.{rows_length, rows_back, rows_stand, rows_are_bytes}
use Rattle.publications.proofs.TableLaws.{tables_back, ReadTables, tables_stand, tables_are_bytes}
use Rattle.publications.proofs.HeadLaws.{head_back, head_is_bytes, ReadHead, head_stands}
use Rattle.publications.proofs.Steps.{all_read}

-- coverage that is allowed is accepted
module _ (rs : List CoverageRow) (a : AllowedCoverage rs) where
  measured : coverage_judge.measures (length (rows_bytes rs)) ≡ true
  measured =
      let n = rows_length rs in
      let s = a.some in
      let f = a.few in
      let b = length (rows_bytes rs) in
      and_from _ _ (le-leb 7 b (omega arith)) (and_from _ _ (le-leb b 448 (omega arith)) (eq-eqb (b % 7) 0 (omega arith)))

  judged : reason_of (rows_in (rows_bytes rs)) ≡ None
  judged = ap reason_of (rows_back rs a)

-- what was written is read back
module _ (makes : Makes) (h : PublicationHead) (rs : List CoverageRow) (bs : List (List ℕ)) (ts : List Table) (a : AllowedHead makes h ts) (c : AllowedCoverage rs) (t : AcceptedTables ts h.hashes bs) where
  pub content_back : reads makes (published h rs (table_fields 1 bs)) ≡ Ok (record { head = h; coverage = rs; tables = bs })
  content_back =
      let head = head_field h in
      let body = rows_bytes rs in
      let cover = coverage_field rs in
      let tables = table_fields 1 bs in
      let front = head ++ (cover ++ tables) in
      let check = check_field front in
      let input = front ++ check in
      let n = rows_length rs in
      let f = c.few in
      let one : input ≡ head ++ ((cover ++ tables) ++ check) = append_assoc head (cover ++ tables) check in
      let two : input ≡ head ++ (cover ++ (tables ++ check)) = one ∙ ap (λ (x : List ℕ). head ++ x) (append_assoc cover tables check) in
      let three : input ≡ (head ++ cover) ++ (tables ++ check) = two ∙ sym (append_assoc head cover (tables ++ check)) in
      let twelve : length head ≡ 12 = refl in
      let long = length_field 0x02 body in
      let size : length (head ++ cover) ≡ 15 + length body = length-append head cover ∙ (let q : length head + length cover ≡ 15 + length body = omega arith in q) in
      let all : length front ≡ 15 + length body + length tables = length-append head (cover ++ tables) ∙ (let m = length-append cover tables in let q : length head + length (cover ++ tables) ≡ 15 + length body + length tables = omega arith in q) in
      let p : head_at makes input 0 ≡ Ok h = ap (λ (x : List ℕ). head_at makes x 0) one ∙ head_back makes h ts a ((cover ++ tables) ++ check) in
      let q : table_in coverage_judge 0x02 h.hashes input 12 ≡ Ok body = ap (λ (x : List ℕ). table_in coverage_judge 0x02 h.hashes x 12) two ∙ table_back head body (tables ++ check) 0x02 (omega arith) coverage_judge h.hashes (measured rs c) (judged rs c) in
      let known : known_tables (makes h.make) ≡ ts = ap known_tables a.known in
      let r : tables_at (known_tables (makes h.make)) 1 h.hashes input (15 + length body) ≡ Ok bs =
      ap (λ (x : List Table). tables_at x 1 h.hashes input (15 + length body)) known
      ∙ ap (tables_at ts 1 h.hashes input) (sym size)
      ∙ ap (λ (x : List ℕ). tables_at ts 1 h.hashes x (length (head ++ cover))) three
      ∙ tables_back ts bs 1 h.hashes (head ++ cover) check t
      in
      let s : check_at input (15 + length body + length tables) ≡ Ok tt = ap (check_at input) (sym all) ∙ check_back front in
      all_read makes input h p body q bs r tt s ∙ ap (λ (x : Result (List CoverageRow) Reason). Ok (record { head = h; coverage = unsaid x; tables = bs })) (rows_back rs c)

-- what was read
pub record Reading (makes : Makes) (input rows : List ℕ) (p : Content) : Type 0 where
  pub head : ReadHead makes input p.head
  pub coverage : AllowedCoverage p.coverage
  pub rows_are : rows_bytes p.coverage ≡ rows
  pub found : rows_in rows ≡ Ok p.coverage
  pub inside : 15 + length rows ≤ length input
  pub covered : take (15 + length rows) input ≡ take 12 input ++ field 0x02 rows
  pub tables : ReadTables (known_tables (makes p.head.make)) 1 p.head.hashes input (15 + length rows) p.tables
  pub whole : checked (take (15 + length rows + length (table_fields 1 p.tables)) input) ≡ input

ok_rows : (t : Result (List CoverageRow) Reason) → reason_of t ≡ None → t ≡ Ok (unsaid t)
ok_rows (Ok rs) e = refl
ok_rows (Err r) e = absurd (let z : ◌≡◌ {A = ℕ} 0 1 = cc in let y : ⊥ = omega arith in y)

module _ (makes : Makes) (input : List ℕ) (real : bytes input ≡ true) (h : PublicationHead) (p : head_at makes input 0 ≡ Ok h) (c : List ℕ) (q : table_in coverage_judge 0x02 h.hashes input 12 ≡ Ok c) (bs : List (List ℕ)) (r : tables_at (known_tables (makes h.make)) 1 h.hashes input (15 + length c) ≡ Ok bs) (u : Unit {0}) (s : check_at input (15 + length c + length (table_fields 1 bs)) ≡ Ok u) where
  pub reading : Reading makes input c (record { head = h; coverage = unsaid (rows_in c); tables = bs })
  reading =
      let cover = table_stands coverage_judge 0x02 h.hashes input 12 c real q in
      let m = and_parts (leb 7 (length c)) (leb (length c) 448 && eqb (length c % 7) 0) cover.measured in
      let k = and_parts (leb (length c) 448) (eqb (length c % 7) 0) m.1 in
      let found = ok_rows (rows_in c) cover.well in
      let rows = rows_stand c (unsaid (rows_in c)) cover.stands.real (leb-true 7 (length c) m.0) (leb-true (length c) 448 k.0) (eqb-true (length c % 7) 0 k.1) found in
      let e : 15 + length c ≡ 12 + (3 + length c) = omega arith in
      record {
        head = head_stands makes input h real p;
        coverage = rows.0;
        rows_are = rows.1;
        found = found;
        inside = (let z = cover.stands.inside in omega arith);
        covered = ap (λ (n : ℕ). take n input) e ∙ cover.stands.written;
        tables = tables_stand (known_tables (makes h.make)) 1 h.hashes input (15 + length c) bs real r;
        whole = check_stands input (15 + length c + length (table_fields 1 bs)) u real s;
      }

pub read_whole : (makes : Makes) (input : List ℕ) (p : Content) → bytes input ≡ true → reads makes input ≡ Ok p → (rows : List ℕ) × Reading makes input rows p
unfolding reads
read_whole makes input p real e =
    let go4 : PublicationHead → List ℕ → List (List ℕ) → Unit {0} → Result Content Refusal = λ h c ts _. Ok (record { head = h; coverage = unsaid (rows_in c); tables = ts }) in
    let go3 : PublicationHead → List ℕ → List (List ℕ) → Result Content Refusal = λ h c ts. then (check_at input (15 + length c + length (table_fields 1 ts))) (go4 h c ts) in
    let go2 : PublicationHead → List ℕ → Result Content Refusal = λ h c. then (tables_at (known_tables (makes h.make)) 1 h.hashes input (15 + length c)) (go3 h c) in
    let go1 : PublicationHead → Result Content Refusal = λ h. then (table_in coverage_judge 0x02 h.hashes input 12) (go2 h) in
    let a = then_ok (head_at makes input 0) go1 p e in
    let h = a.0 in
    let b = then_ok (table_in coverage_judge 0x02 h.hashes input 12) (go2 h) p a.2 in
    let c = b.0 in
    let d = then_ok (tables_at (known_tables (makes h.make)) 1 h.hashes input (15 + length c)) (go3 h c) p b.2 in
    let ts = d.0 in
    let f = then_ok (check_at input (15 + length c + length (table_fields 1 ts))) (go4 h c ts) p d.2 in
    let made : Content = record { head = h; coverage = unsaid (rows_in c); tables = ts } in
    let last : ◌≡◌ {A = Result Content Refusal} (Ok made) (Ok p) = f.2 in
    let q : made ≡ p = cc in
    let P : Content → Type 0 = Reading makes input c in
    (c, subst P q (reading makes input real h a.1 c b.1 ts d.1 f.0 f.1))

pub written_again : (makes : Makes) (bs : List ℕ) (p : Content) → bytes bs ≡ true → reads makes bs ≡ Ok p → Allowed makes p × (writes p ≡ bs)
written_again makes bs p real e =
    let w = read_whole makes bs p real e in
    let c = w.0 in
    let r = w.1 in
    let tables = table_fields 1 p.tables in
    let head = head_field p.head in
    let front : head ++ (coverage_field p.coverage ++ tables) ≡ take (15 + length c + length tables) bs =
    ap (λ (x : List ℕ). head ++ (field 0x02 x ++ tables)) r.rows_are
    ∙ sym (append_assoc head (field 0x02 c) tables)
    ∙ ap (λ (x : List ℕ). (x ++ field 0x02 c) ++ tables) (sym r.head.written)
    ∙ ap (λ (x : List ℕ). x ++ tables) (sym r.covered)
    ∙ sym r.tables.written
    in
    (record { judges = known_tables (makes p.head.make); head = r.head.allowed; coverage = r.coverage; tables = r.tables.accepted }, ap checked front ∙ r.whole)

read_back : (makes : Makes) (p : Content) → Allowed makes p → reads makes (writes p) ≡ Ok p
read_back makes p a = content_back makes p.head p.coverage p.tables a.judges a.head a.coverage a.tables

unique : (makes : Makes) (p q : Content) → Allowed makes p → Allowed makes q → writes p ≡ writes q → p ≡ q
unique makes p q a b e = let r : ◌≡◌ {A = Result Content Refusal} (Ok p) (Ok q) = sym (read_back makes p a) ∙ ap (reads makes) e ∙ read_back makes q b in cc

in_bytes : (makes : Makes) (p : Content) → Allowed makes p → bytes (writes p) ≡ true
in_bytes makes p a =
    let head = head_field p.head in
    let cover = coverage_field p.coverage in
    let tables = table_fields 1 p.tables in
    let front = head ++ (cover ++ tables) in
    bytes_append front (check_field front)
    (bytes_append head (cover ++ tables) (head_is_bytes makes p.head a.judges a.head) (bytes_append cover tables (field_bytes 0x02 (rows_bytes p.coverage) refl (rows_are_bytes p.coverage)) (tables_are_bytes a.judges 1 p.head.hashes p.tables a.tables)))
    (check_bytes front)

pub layout_law : (makes : Makes) → LayoutLaw makes
layout_law makes = record { read_back = read_back makes; written_again = written_again makes; unique = unique makes; in_bytes = in_bytes makes }
