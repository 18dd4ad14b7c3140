-- A sheet that was written is read back.
use Rattle.std.proofs.Common.{◌≡◌, ℕ, zero, suc, ◌+◌, ◌^◌, ◌<◌, ◌≤◌, true, false, ◌&&◌, eqb, ltb, List, [], ◌∷◌, ◌++◌, length, get_or, Some, Ok, Result, sym, refl, ap, ◌∙◌, ⊎_elim, arith}
use Rattle.std.proofs.lemmas.List.{append_assoc, append-nil, length-append}
use Rattle.std.proofs.lemmas.Bool.{lt-ltb, ne_eqb, and_from, and_right, and_parts, or_right, or_from, cond-true, cases_lt}
use Rattle.refusals.specs.declared.Refusal.{Refusal}
use Rattle.passes.specs.Bytes.{be2}
use Rattle.passes.specs.Lawful.{lawful}
use Rattle.passes.specs.Order.{before}
use Rattle.fields.specs.Fields.{tag_at}
use Rattle.fields.specs.Reading.{be4, check_field, checked, then, four, two, check_at}
use Rattle.fields.proofs.Steps.{content_read}
use Rattle.fields.proofs.Numbers.{four_bytes, two_bytes}
use Rattle.fields.proofs.Readback.{tag_back, field_back, check_back, check_tag}
use Rattle.sheets.specs.Sides.{side_byte}
use Rattle.sheets.specs.declared.Side.{Side}
use Rattle.sheets.specs.declared.Side.TheVariants.{Good, Blocked}
use Rattle.sheets.specs.declared.SheetHead.{SheetHead}
use Rattle.sheets.specs.Sheets.{Word, Sheet, head_field, word_field, word_fields, writes}
use Rattle.sheets.specs.Reading.{head_in, head_at, word_in, word_at, is_check, check_due, behind, words_from, reads}
use Rattle.sheets.specs.Layout.{Allowed}
use Rattle.sheets.proofs.Words.{all_lawful, above, lawful_size, all_from, above_empty}

head_in_back : (h : SheetHead) → (1 ≤ h.number) × (h.number < 2 ^ 32) → (1 ≤ h.step) × (h.step < 2 ^ 16) → head_in (1 ∷ (be4 h.number ++ be2 h.step)) ≡ Ok h
head_in_back h a b =
    let body = 1 ∷ (be4 h.number ++ be2 h.step) in
    let p : four body 1 ≡ h.number = four_bytes h.number a.1 in
    let q : two body 5 ≡ h.step = two_bytes h.step b.1 in
    cond-true (eqb (get_or body 0 0) 1 && (ltb 0 (four body 1) && ltb 0 (two body 5))) _ _ (and_from _ _ refl (and_from _ _ (lt-ltb 0 (four body 1) (omega arith)) (lt-ltb 0 (two body 5) (omega arith))))
    ∙ ap (λ (n : ℕ). Ok (record { number = n; step = two body 5 })) p
    ∙ ap (λ (n : ℕ). Ok (record { number = h.number; step = n })) q

pub head_back : (h : SheetHead) (rest : List ℕ) → (1 ≤ h.number) × (h.number < 2 ^ 32) → (1 ≤ h.step) × (h.step < 2 ^ 16) → head_at (head_field h ++ rest) 0 ≡ Ok h
unfolding head_at
head_back h rest a b =
    let body = 1 ∷ (be4 h.number ++ be2 h.step) in
    content_read head_in 0x21 7 7 0 (head_field h ++ rest) body h (field_back [] body rest 0x21 7 7 (omega arith) (omega arith) (omega arith)) (head_in_back h a b)

word_in_back : (last : List ℕ) (s : Side) (f : List ℕ) → lawful f ≡ true → before last f ≡ true → word_in last (side_byte s ∷ f) ≡ Ok (record { side = s; form = f })
word_in_back last Good f l b = rw (l, b)
word_in_back last Blocked f l b = rw (l, b)

pub word_back : (last front rest : List ℕ) (w : Word) → lawful w.form ≡ true → before last w.form ≡ true → word_at last (front ++ (word_field w ++ rest)) (length front) ≡ Ok w
unfolding word_at
word_back last front rest w l b =
    let body = side_byte w.side ∷ w.form in
    let z = lawful_size w.form l in
    content_read (word_in last) 0x22 5 24 (length front) (front ++ (word_field w ++ rest)) body w (field_back front body rest 0x22 5 24 (omega arith) (omega arith) (omega arith)) (word_in_back last w.side w.form l b)

-- the check alone
unfoldable pub ended : List ℕ → ℕ → Result (List Word) Refusal
ended input at = then (check_at input at) (λ _. Ok [])

no_words : (front : List ℕ) → ended (checked (front ++ [])) (length front) ≡ Ok []
unfolding ended
no_words front = ap (λ (t : List ℕ). then (check_at (checked t) (length front)) (λ _. Ok [])) (append-nil front) ∙ ap (λ (r : Result (Unit {0}) Refusal). then r (λ _. Ok [])) (check_back front)

-- one step of reading words
pub at_check : (room : ℕ) (last input : List ℕ) (at : ℕ) → check_due (suc room) input at ≡ true → words_from (suc room) last input at ≡ ended input at
unfolding words_from ended
at_check room last input at e = rw e

unfoldable pub with_word : ℕ → List ℕ → ℕ → Word → Result (List Word) Refusal
with_word room input at w = then (words_from room w.form input (behind at w)) (λ ws. Ok (w ∷ ws))

pub at_word : (room : ℕ) (last input : List ℕ) (at : ℕ) → check_due (suc room) input at ≡ false → words_from (suc room) last input at ≡ then (word_at last input at) (with_word room input at)
unfolding words_from with_word
at_word room last input at e = rw e

-- a word in front of others
first_word : (front : List ℕ) (w : Word) (ws : List Word) → checked (front ++ word_fields (w ∷ ws)) ≡ front ++ (word_field w ++ (word_fields ws ++ check_field (front ++ word_fields (w ∷ ws))))
first_word front w ws =
    let c = check_field (front ++ word_fields (w ∷ ws)) in
    append_assoc front (word_fields (w ∷ ws)) c ∙ ap (λ (t : List ℕ). front ++ t) (append_assoc (word_field w) (word_fields ws) c)

-- words, and the check behind them
pub words_back : (ws : List Word) (room : ℕ) (last front : List ℕ) → room ≤ 256 → length ws ≤ room → (256 ≤ room → 1 ≤ length ws) → all_lawful ws ≡ true → above last ws ≡ true → words_from room last (checked (front ++ word_fields ws)) (length front) ≡ Ok ws
unfolding words_from ended with_word
words_back [] zero last front m l s a r = no_words front
words_back [] (suc room) last front m l s a r =
    let input = checked (front ++ []) in
    let few : suc room < 256 = ⊎_elim (λ (k : suc room < 256). k) (λ (k : 256 ≤ suc room). absurd (let z = s k in let y : ⊥ = omega arith in y)) (cases_lt (suc room) 256) in
    let t : tag_at input (length front) ≡ Some 0xFF = ap (λ (t : List ℕ). tag_at (checked t) (length front)) (append-nil front) ∙ check_tag front in
    let due : check_due (suc room) input (length front) ≡ true = or_right (eqb (suc room) 0) _ (and_from _ _ (lt-ltb (suc room) 256 few) (ap is_check t)) in
    at_check room last input (length front) due ∙ no_words front
words_back (w ∷ ws) zero last front m l s a r = absurd (omega arith)
words_back (w ∷ ws) (suc room) last front m l s a r =
    let input = checked (front ++ word_fields (w ∷ ws)) in
    let at = length front in
    let rest = word_fields ws ++ check_field (front ++ word_fields (w ∷ ws)) in
    let p = and_parts (lawful w.form) (all_lawful ws) a in
    let q = and_parts (before last w.form) (above w.form ws) r in
    let split = first_word front w ws in
    let t : tag_at input at ≡ Some 0x22 = ap (λ (t : List ℕ). tag_at t at) split ∙ tag_back front (side_byte w.side ∷ w.form) rest 0x22 in
    let due : check_due (suc room) input at ≡ false = or_from (eqb (suc room) 0) _ (ne_eqb (suc room) 0 (λ e. omega arith)) (and_right (ltb (suc room) 256) _ (ap is_check t)) in
    let read : word_at last input at ≡ Ok w = ap (λ (t : List ℕ). word_at last t at) split ∙ word_back last front rest w p.0 q.0 in
    let next = words_back ws room w.form (front ++ word_field w) (omega arith) (omega arith) (λ e. absurd (omega arith)) p.1 q.1 in
    let same : checked ((front ++ word_field w) ++ word_fields ws) ≡ input = ap checked (append_assoc front (word_field w) (word_fields ws)) in
    let long : length (word_field w) ≡ 4 + length w.form = omega arith in
    let size : length (front ++ word_field w) ≡ behind at w = length-append front (word_field w) ∙ ap (λ (n : ℕ). at + n) long in
    let go : words_from room w.form input (behind at w) ≡ Ok ws = ap (λ (n : ℕ). words_from room w.form input n) (sym size) ∙ ap (λ (t : List ℕ). words_from room w.form t (length (front ++ word_field w))) (sym same) ∙ next in
    at_word room last input at due
    ∙ ap (λ (t : Result Word Refusal). then t (with_word room input at)) read
    ∙ ap (λ (t : Result (List Word) Refusal). then t (λ vs. Ok (w ∷ vs))) go

pub read_back : (s : Sheet) → Allowed s → reads (writes s) ≡ Ok s
unfolding reads
read_back s a =
    let h = s.head in
    let ws = s.words in
    let front = head_field h in
    let input = checked (front ++ word_fields ws) in
    let some = a.some in
    let p : head_at input 0 ≡ Ok h = ap (λ (t : List ℕ). head_at t 0) (append_assoc front (word_fields ws) (check_field (front ++ word_fields ws))) ∙ head_back h (word_fields ws ++ check_field (front ++ word_fields ws)) a.numbered a.stepped in
    let q : words_from 256 [] input 10 ≡ Ok ws = words_back ws 256 [] front (omega arith) a.few (λ e. some) (all_from ws a.shaped) (above_empty ws a.shaped a.rising) in
    let go : SheetHead → Result Sheet Refusal = λ k. then (words_from 256 [] input 10) (λ vs. Ok (record { head = k; words = vs })) in
    ap (λ (t : Result SheetHead Refusal). then t go) p ∙ ap (λ (t : Result (List Word) Refusal). then t (λ vs. Ok (record { head = h; words = vs }))) q
