-- Fields written one behind the other.
use Rattle.std.proofs.Common.{◌≡◌, ℕ, ◌+◌, ◌-◌, ◌≤◌, false, leb, List, [], ◌∷◌, ◌++◌, map, length, take, drop, Some, None, Option, sym, refl, ap, ◌∙◌, arith}
use borrow.Rule.Slice.PartMut.{put_mid}
use Rattle.std.proofs.lemmas.List.{length-drop}
use Rattle.fields.specs.Sealing.{sealed}
use Rattle.fields.proofs.Sealed.{seal_wrote}
use Rattle.passes.specs.Outputs.{written_to, joined}
use Rattle.passes.proofs.Outputs.{Wrote, wrote, wrote_none, fit_alike, behind, chain}
use Rattle.sheets.specs.declared.SheetHead.{SheetHead}
use Rattle.sheets.specs.declared.SheetWord.{SheetWord}
use Rattle.sheets.specs.Sheets.{head_field, word_field, word_fields, writes}
use Rattle.sheets.specs.Stages.{word_of, sheet_of}
use Rattle.sheets.proofs.Layouts.{writes_length}

-- the fields of words
abbrev pub spelled : List SheetWord → List ℕ
spelled ws = word_fields (map word_of ws)

-- one behind the other
pub joined_words : (ws : List SheetWord) → joined (λ w. word_field (word_of w)) ws ≡ spelled ws
joined_words [] = refl
joined_words (w ∷ ws) = ap (λ (t : List ℕ). word_field (word_of w) ++ t) (joined_words ws)

-- whether a sheet fits, under any head
module _ (h : SheetHead) (ws : List SheetWord) (room : ℕ) where
  size : length (writes (sheet_of h ws)) ≡ 17 + length (joined (λ w. word_field (word_of w)) ws)
  size = writes_length h (map word_of ws) ∙ ap (λ (t : List ℕ). 17 + length t) (sym (joined_words ws))

  pub some_room : (left : ℕ) → length (joined (λ w. word_field (word_of w)) ws) ≤ room → left ≡ room - length (joined (λ w. word_field (word_of w)) ws) → leb 17 left ≡ leb (length (writes (sheet_of h ws))) room
  some_room left fits e = let a = size in fit_alike 17 left (length (writes (sheet_of h ws))) room (λ l. omega arith) (λ l. omega arith)

  pub no_room : (length (joined (λ w. word_field (word_of w)) ws) ≤ room → ⊥) → false ≡ leb (length (writes (sheet_of h ws))) room
  no_room none = let a = size in fit_alike 1 0 (length (writes (sheet_of h ws))) room (λ l. omega arith) (λ l. absurd (none (omega arith)))

-- the head, the words and the check, one behind the other
module _ (h : SheetHead) (ws : List SheetWord) (out out1 : List ℕ) (fits : length (writes (sheet_of h ws)) ≤ length out) (e : out1 ≡ head_field h ++ drop 10 out) where
  head_wrote : Wrote (head_field h) out out1 10
  head_wrote = let a = writes_length h (map word_of ws) in let r : 10 ≤ length out = omega arith in record { size = refl; room = r; bytes = e }

  words_room : length (joined (λ w. word_field (word_of w)) ws) ≤ length (take (length out1 - 10) (drop 10 out1))
  words_room =
      let a = writes_length h (map word_of ws) in
      let b = ap length (behind (head_field h) out out1 10 head_wrote) ∙ length-drop 10 out in
      let c = ap length (joined_words ws) in
      omega arith

  pub words_fit : (part : List ℕ) → ◌≡◌ {A = Option ℕ × List ℕ} (None, part) (written_to (joined (λ w. word_field (word_of w)) ws) (take (length out1 - 10) (drop 10 out1))) → ⊥
  words_fit part f =
      let short = wrote_none (joined (λ w. word_field (word_of w)) ws) (take (length out1 - 10) (drop 10 out1)) part f in
      let room = words_room in
      omega arith

  pub sheet_wrote : (part : List ℕ) (n : ℕ) → ◌≡◌ {A = Option ℕ × List ℕ} (Some n, part) (written_to (joined (λ w. word_field (word_of w)) ws) (take (length out1 - 10) (drop 10 out1))) → (res : Option ℕ) (last : List ℕ) → ◌≡◌ {A = Option ℕ × List ℕ} (res, last) (sealed (10 + n) (put_mid 10 (length out1 - 10) out1 part)) → ◌≡◌ {A = Option ℕ × List ℕ} (res, last) (written_to (writes (sheet_of h ws)) out)
  sheet_wrote part n f res last g =
      let w = chain (head_field h) (spelled ws) out out1 part 10 n head_wrote (wrote (spelled ws) (take (length out1 - 10) (drop 10 out1)) part n (f ∙ ap (λ (bs : List ℕ). written_to bs (take (length out1 - 10) (drop 10 out1))) (joined_words ws))) in
      g ∙ seal_wrote (head_field h ++ spelled ws) out (put_mid 10 (length out1 - 10) out1 part) (10 + n) w fits
