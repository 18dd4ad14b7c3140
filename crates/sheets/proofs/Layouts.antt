-- The law of the layout: bytes that are accepted, and their one content.
use Rattle.std.proofs.Common.{◌≡◌, ℕ, ◌+◌, ◌*◌, ◌≤◌, true, List, [], ◌∷◌, ◌++◌, length, is_ok, Ok, Err, Decides, Result, sym, refl, ap, ◌∙◌, arith}
use Rattle.std.proofs.lemmas.List.{length-append}
use Rattle.std.proofs.lemmas.Bool.{and_parts}
use Rattle.refusals.specs.declared.Refusal.{Refusal}
use Rattle.passes.specs.Bytes.{bytes, be2}
use Rattle.passes.specs.ByteLaws.{bytes_append}
use Rattle.passes.specs.Lawful.{lawful}
use Rattle.fields.proofs.Readback.{field_bytes, check_bytes, check_length}
use Rattle.fields.specs.Reading.{be4, check_field, then}
use Rattle.fields.proofs.Numbers.{be2_bytes, be4_bytes}
use Rattle.sheets.specs.Sides.{side_byte}
use Rattle.sheets.specs.declared.Side.{Side}
use Rattle.sheets.specs.declared.Side.TheVariants.{Good, Blocked}
use Rattle.sheets.specs.declared.SheetHead.{SheetHead}
use Rattle.sheets.specs.declared.SheetSummary.{SheetSummary}
use Rattle.sheets.specs.Sheets.{Word, Sheet, head_field, word_field, word_fields, writes}
use Rattle.sheets.specs.Reading.{reads, summary}
use Rattle.sheets.specs.Layout.{Allowed, Written, LayoutLaw}
use Rattle.sheets.proofs.Words.{all_lawful, lawful_size, lawful_bytes, all_from}
use Rattle.sheets.proofs.Readback.{read_back}
use Rattle.sheets.proofs.Accepted.{written_again}

side_bytes : (s : Side) → bytes (side_byte s ∷ []) ≡ true
side_bytes Good = refl
side_bytes Blocked = refl

words_bytes : (ws : List Word) → all_lawful ws ≡ true → bytes (word_fields ws) ≡ true
words_bytes [] a = refl
words_bytes (w ∷ ws) a =
    let p = and_parts (lawful w.form) (all_lawful ws) a in
    bytes_append (word_field w) (word_fields ws)
    (field_bytes 0x22 (side_byte w.side ∷ w.form) refl (bytes_append (side_byte w.side ∷ []) w.form (side_bytes w.side) (lawful_bytes w.form p.0)))
    (words_bytes ws p.1)

head_bytes : (h : SheetHead) → bytes (head_field h) ≡ true
head_bytes h = field_bytes 0x21 (1 ∷ (be4 h.number ++ be2 h.step)) refl (bytes_append (1 ∷ []) (be4 h.number ++ be2 h.step) refl (bytes_append (be4 h.number) (be2 h.step) (be4_bytes h.number) (be2_bytes h.step)))

in_bytes : (s : Sheet) → Allowed s → bytes (writes s) ≡ true
in_bytes s a =
    let front = head_field s.head ++ word_fields s.words in
    bytes_append front (check_field front) (bytes_append (head_field s.head) (word_fields s.words) (head_bytes s.head) (words_bytes s.words (all_from s.words a.shaped))) (check_bytes front)

words_length : (ws : List Word) → all_lawful ws ≡ true → length (word_fields ws) ≤ 27 * length ws
words_length [] a = omega arith
words_length (w ∷ ws) a =
    let p = and_parts (lawful w.form) (all_lawful ws) a in
    let z = lawful_size w.form p.0 in
    let r = words_length ws p.1 in
    let l : length (word_field w) ≡ 4 + length w.form = omega arith in
    let m = length-append (word_field w) (word_fields ws) in
    omega arith

-- how long a writing is
pub writes_length : (h : SheetHead) (ws : List Word) → length (writes (record { head = h; words = ws })) ≡ 17 + length (word_fields ws)
writes_length h ws =
    let front = head_field h ++ word_fields ws in
    let a = length-append front (check_field front) in
    let b = length-append (head_field h) (word_fields ws) in
    let c = check_length front in
    let d : length (head_field h) ≡ 10 = refl in
    omega arith

longest : (s : Sheet) → Allowed s → length (writes s) ≤ 6929
longest s a =
    let l = writes_length s.head s.words in
    let m = words_length s.words (all_from s.words a.shaped) in
    let n = a.few in
    omega arith

unique : (s t : Sheet) → Allowed s → Allowed t → writes s ≡ writes t → s ≡ t
unique s t a b e = let p : ◌≡◌ {A = Result Sheet Refusal} (Ok s) (Ok t) = sym (read_back s a) ∙ ap reads e ∙ read_back t b in cc

pub layout_law : LayoutLaw
layout_law = record { read_back = read_back; written_again = written_again; unique = unique; in_bytes = in_bytes; longest = longest }

ok_of : {A B : Type 0} (t : Result A Refusal) (f : A → B) → is_ok (then t (λ a. Ok (f a))) ≡ true → (a : A) × (t ≡ Ok a)
ok_of (Ok a) f e = (a, refl)
ok_of (Err x) f e = absurd (let z : ⊥ = grind arith in z)

-- the answer says whether the bytes are the writing of an allowed content
pub judge_decides : (bs : List ℕ) (r : Result SheetSummary Refusal) → bytes bs ≡ true → r ≡ then (reads bs) (λ s. Ok (summary s)) → Decides (is_ok r) (Written bs)
judge_decides bs r real e = (
  λ t. let p = ok_of (reads bs) summary (sym (ap is_ok e) ∙ t) in let q = written_again bs p.0 real p.1 in record { sheet = p.0; allowed = q.0; bytes_are = q.1 },
  λ w. ap is_ok (e ∙ ap (λ (t : Result Sheet Refusal). then t (λ s. Ok (summary s))) (ap reads (sym w.bytes_are) ∙ read_back w.sheet w.allowed)),
)
