-- The fields of a publication written one behind the other.
use Rattle.std.proofs.Common.{◌≡◌, ℕ, ◌+◌, ◌-◌, ◌*◌, ◌/◌, ◌%◌, ◌<◌, ◌≤◌, false, leb, List, [], ◌∷◌, ◌++◌, length, take, drop, Some, None, Option, sym, refl, ap, ◌∙◌, subst, arith}
use borrow.Rule.Slice.PartMut.{put_mid}
use Rattle.std.proofs.lemmas.List.{append_assoc, length-append}
use Rattle.std.proofs.lemmas.Bool.{cond-false, lt-leb}
use Rattle.passes.specs.Outputs.{written_to}
use Rattle.passes.proofs.Outputs.{Wrote, wrote, wrote_to, fit_alike, chain}
use Rattle.fields.specs.Reading.{check_field, checked}
use Rattle.fields.specs.Sealing.{sealed}
use Rattle.fields.proofs.Readback.{length_field, check_length}
use Rattle.fields.proofs.Sealed.{seal_wrote}
use Rattle.publications.specs.declared.CoverageRow.{CoverageRow}
use Rattle.publications.specs.declared.PublicationHead.{PublicationHead}
use Rattle.publications.specs.Publications.{head_field, rows_bytes, coverage_field, published}
use Rattle.publications.proofs.RowLaws.{rows_length}

pub coverage_length : (rs : List CoverageRow) → length (coverage_field rs) ≡ 3 + 7 * length rs
coverage_length rs = let a = rows_length rs in let b = length_field 0x02 (rows_bytes rs) in omega arith

-- how long a publication is
pub published_length : (h : PublicationHead) (rs : List CoverageRow) (tables : List ℕ) → length (published h rs tables) ≡ 22 + 7 * length rs + length tables
published_length h rs tables =
    let front = head_field h ++ (coverage_field rs ++ tables) in
    let a = length-append front (check_field front) in
    let b = check_length front in
    let c = length-append (head_field h) (coverage_field rs ++ tables) in
    let d = length-append (coverage_field rs) tables in
    let e = coverage_length rs in
    let f : length (head_field h) ≡ 12 = refl in
    omega arith

-- whether a publication fits, under any head
module _ (h : PublicationHead) (rs : List CoverageRow) (tables : List ℕ) (room : ℕ) where
  pub no_room : room < 22 + length (rows_bytes rs) → false ≡ leb (length (published h rs tables)) room
  no_room l =
      let a = published_length h rs tables in
      let b = rows_length rs in
      sym (lt-leb (length (published h rs tables)) room (omega arith))

  pub some_room : (left : ℕ) → left + 22 + length (rows_bytes rs) ≡ room → leb (length tables) left ≡ leb (length (published h rs tables)) room
  some_room left e =
      let a = published_length h rs tables in
      let b = rows_length rs in
      fit_alike (length tables) left (length (published h rs tables)) room (λ l. omega arith) (λ l. omega arith)

module _ (rs : List CoverageRow) (out out1 first : List ℕ) (fits : length (coverage_field rs) ≤ length out) (e : out1 ≡ first ++ drop 3 out) (f : first ≡ 0x02 ∷ (length (rows_bytes rs) / 256 % 256) ∷ (length (rows_bytes rs) % 256) ∷ []) where
  three : List ℕ
  three = 0x02 ∷ (length (rows_bytes rs) / 256 % 256) ∷ (length (rows_bytes rs) % 256) ∷ []

  header_wrote : Wrote three out out1 3
  unfolding three
  header_wrote = let a = coverage_length rs in record { size = refl; room = (let z : 3 ≤ length out = omega arith in z); bytes = e ∙ ap (λ (t : List ℕ). t ++ drop 3 out) f }

  pub coverage_wrote : (part : List ℕ) (n : ℕ) → ◌≡◌ {A = Option ℕ × List ℕ} (Some n, part) (written_to (rows_bytes rs) (take (length out1 - 3) (drop 3 out1))) → ◌≡◌ {A = Option ℕ × List ℕ} (Some (3 + n), put_mid 3 (length out1 - 3) out1 part) (written_to (coverage_field rs) out)
  unfolding three
  coverage_wrote part n g = wrote_to (coverage_field rs) out (put_mid 3 (length out1 - 3) out1 part) (3 + n) (chain three (rows_bytes rs) out out1 part 3 n header_wrote (wrote (rows_bytes rs) (take (length out1 - 3) (drop 3 out1)) part n g))

-- the head, the coverage, the tables and the check, one behind the other
module _ (h : PublicationHead) (rs : List CoverageRow) (tables out out1 : List ℕ) (fits : length (published h rs tables) ≤ length out) (e : out1 ≡ head_field h ++ drop 12 out) where
  head_wrote : Wrote (head_field h) out out1 12
  head_wrote = let a = published_length h rs tables in record { size = refl; room = (let z : 12 ≤ length out = omega arith in z); bytes = e }

  module _ (part : List ℕ) (n : ℕ) (f : ◌≡◌ {A = Option ℕ × List ℕ} (Some n, part) (written_to (coverage_field rs) (take (length out1 - 12) (drop 12 out1)))) where
    both : Wrote (head_field h ++ coverage_field rs) out (put_mid 12 (length out1 - 12) out1 part) (12 + n)
    both = chain (head_field h) (coverage_field rs) out out1 part 12 n head_wrote (wrote (coverage_field rs) (take (length out1 - 12) (drop 12 out1)) part n f)

    module _ (last : List ℕ) where
      out2 : List ℕ
      out2 = put_mid 12 (length out1 - 12) out1 part

      pub publication_wrote : (m : ℕ) → ◌≡◌ {A = Option ℕ × List ℕ} (Some m, last) (written_to tables (take (length (put_mid 12 (length out1 - 12) out1 part) - (12 + n)) (drop (12 + n) (put_mid 12 (length out1 - 12) out1 part)))) → (res : Option ℕ) (final : List ℕ) → ◌≡◌ {A = Option ℕ × List ℕ} (res, final) (sealed (12 + n + m) (put_mid (12 + n) (length (put_mid 12 (length out1 - 12) out1 part) - (12 + n)) (put_mid 12 (length out1 - 12) out1 part) last)) → ◌≡◌ {A = Option ℕ × List ℕ} (res, final) (written_to (published h rs tables) out)
      unfolding out2
      publication_wrote m g res final k =
          let front = head_field h ++ coverage_field rs in
          let w = chain front tables out out2 last (12 + n) m both (wrote tables _ last m g) in
          let same : front ++ tables ≡ head_field h ++ (coverage_field rs ++ tables) = append_assoc (head_field h) (coverage_field rs) tables in
          let P : List ℕ → Type 0 = λ t. length (checked t) ≤ length out in
          let fit : length (checked (front ++ tables)) ≤ length out = subst P (sym same) fits in
          k
          ∙ seal_wrote (front ++ tables) out (put_mid (12 + n) (length out2 - (12 + n)) out2 last) (12 + n + m) w fit
          ∙ ap (λ (t : List ℕ). written_to (checked t) out) same

-- nothing is written if it doesn't fit
pub not_written : (bs out : List ℕ) → leb (length bs) (length out) ≡ false → ◌≡◌ {A = Option ℕ × List ℕ} (None, out) (written_to bs out)
not_written bs out e = let yes_way : Option ℕ × List ℕ = (Some (length bs), bs ++ drop (length bs) out) in let no_way : Option ℕ × List ℕ = (None, out) in sym (cond-false (leb (length bs) (length out)) yes_way no_way e)
