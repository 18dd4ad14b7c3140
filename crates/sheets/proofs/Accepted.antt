-- Bytes that are accepted are the writing of what was read.
use Rattle.std.proofs.Common.{◌≡◌, ℕ, zero, suc, ◌+◌, ◌^◌, ◌<◌, ◌≤◌, true, false, ◌&&◌, eqb, ltb, List, [], ◌∷◌, ◌++◌, length, get_or, take, drop, Ok, Result, sym, refl, ap, ◌∙◌, subst, ⊎_elim, arith}
use Rattle.std.proofs.lemmas.List.{append_assoc, append-nil, drop_more}
use Rattle.std.proofs.lemmas.Bool.{cases_Bool, cond-true, cond-false, and_parts, and_from, or_cases, ltb-true, eqb-true}
use Rattle.refusals.specs.declared.Reason.TheVariants.{BadValue}
use Rattle.refusals.specs.declared.Refusal.{Refusal}
use Rattle.passes.specs.Bytes.{bytes}
use Rattle.passes.specs.Lawful.{lawful}
use Rattle.passes.specs.Order.{before}
use Rattle.fields.specs.Fields.{field, tag_at}
use Rattle.fields.specs.Reading.{checked, then, four, two, check_at}
use Rattle.fields.proofs.Steps.{never}
use Rattle.fields.proofs.Numbers.{four_small, two_small}
use Rattle.fields.proofs.Stands.{then_ok, content_stands, check_stands}
use Rattle.sheets.specs.Sides.{side_byte, side_of}
use Rattle.sheets.specs.declared.SheetHead.{SheetHead}
use Rattle.sheets.specs.Sheets.{Word, Sheet, head_field, word_field, word_fields, writes}
use Rattle.sheets.specs.Reading.{head_in, head_at, word_in, word_at, is_check, check_due, behind, words_from, reads}
use Rattle.sheets.specs.Layout.{Allowed}
use Rattle.sheets.proofs.Steps.{found_word}
use Rattle.sheets.proofs.Words.{all_lawful, above, each_lawful, pairs}
use Rattle.sheets.proofs.Numbers.{head_body}
use Rattle.sheets.proofs.Readback.{ended, with_word, at_check, at_word}

-- a word stands in the input as it is written
record Placed (last input : List ℕ) (at : ℕ) (w : Word) : Type 0 where
  pub shaped : lawful w.form ≡ true
  pub over : before last w.form ≡ true
  pub written : take (behind at w) input ≡ take at input ++ word_field w

side_back : (n : ℕ) → n ≤ 1 → side_byte (side_of n) ≡ n
side_back zero l = refl
side_back (suc zero) l = refl
side_back (suc (suc n)) l = absurd (omega arith)

word_stands : (last input : List ℕ) (at : ℕ) (w : Word) → bytes input ≡ true → word_at last input at ≡ Ok w → Placed last input at w
unfolding word_at
word_stands last input at w real e =
    let t = content_stands (word_in last) 0x22 5 24 input at w real e in
    let b = t.0 in
    let s = t.1 in
    let f = found_word last b w t.2 in
    let long = s.long in
    let first : b ≡ get_or b 0 0 ∷ drop 1 b = drop_more b 0 0 (omega arith) in
    let side : side_byte w.side ≡ get_or b 0 0 = ap side_byte f.side_is ∙ side_back (get_or b 0 0) f.side_low in
    let form = f.form_is in
    let body : b ≡ side_byte w.side ∷ w.form = cc in
    let size : at + (3 + length b) ≡ behind at w = ap (λ (t : List ℕ). at + (3 + length t)) body ∙ (let z : at + (3 + suc (length w.form)) ≡ at + (4 + length w.form) = omega arith in z) in
    record {
      shaped = ap lawful form ∙ f.shaped;
      over = ap (before last) form ∙ f.above;
      written = ap (λ (k : ℕ). take k input) (sym size) ∙ s.written ∙ ap (λ (t : List ℕ). take at input ++ field 0x22 t) body;
    }

-- words that were read stand in the input as they are written, and the check behind them ends it
record Read (room : ℕ) (last input : List ℕ) (at : ℕ) (ws : List Word) : Type 0 where
  pub few : length ws ≤ room
  pub some : 256 ≤ room → 1 ≤ length ws
  pub shaped : all_lawful ws ≡ true
  pub rising : above last ws ≡ true
  pub whole : checked (take at input ++ word_fields ws) ≡ input

ended_read : (room : ℕ) (last input : List ℕ) (at : ℕ) (ws : List Word) → bytes input ≡ true → room < 256 → ended input at ≡ Ok ws → Read room last input at ws
unfolding ended
ended_read room last input at ws real l e =
    let t = then_ok (check_at input at) (λ _. Ok []) ws e in
    let none = t.2 in
    let n : ◌≡◌ {A = List Word} [] ws = cc in
    let P : List Word → Type 0 = Read room last input at in
    subst P n (record { few = omega arith; some = λ k. absurd (omega arith); shaped = refl; rising = refl; whole = ap checked (append-nil (take at input)) ∙ check_stands input at t.0 real t.1 })

due_room : (room : ℕ) (input : List ℕ) (at : ℕ) → check_due (suc room) input at ≡ true → suc room < 256
due_room room input at e =
    ⊎_elim
    (λ (z : eqb (suc room) 0 ≡ true). absurd (let y = eqb-true (suc room) 0 z in let x : ⊥ = omega arith in x))
    (λ (z : (ltb (suc room) 256 && is_check (tag_at input at)) ≡ true). ltb-true (suc room) 256 (and_parts (ltb (suc room) 256) _ z).0)
    (or_cases (eqb (suc room) 0) _ e)

more_read : (room : ℕ) (last input : List ℕ) (at : ℕ) (w : Word) (ws : List Word) → Placed last input at w → Read room w.form input (behind at w) ws → Read (suc room) last input at (w ∷ ws)
more_read room last input at w ws p r =
    let n = r.few in
    record {
      few = omega arith;
      some = λ k. omega arith;
      shaped = and_from (lawful w.form) (all_lawful ws) p.shaped r.shaped;
      rising = and_from (before last w.form) (above w.form ws) p.over r.rising;
      whole = ap checked (sym (append_assoc (take at input) (word_field w) (word_fields ws)) ∙ ap (λ (t : List ℕ). t ++ word_fields ws) (sym p.written)) ∙ r.whole;
    }

words_read : (room : ℕ) (last input : List ℕ) (at : ℕ) (ws : List Word) → bytes input ≡ true → words_from room last input at ≡ Ok ws → Read room last input at ws
unfolding words_from ended with_word
words_read zero last input at ws real e = ended_read 0 last input at ws real (omega arith) e
words_read (suc room) last input at ws real e =
    ⊎_elim
    (λ (d : check_due (suc room) input at ≡ true). ended_read (suc room) last input at ws real (due_room room input at d) (sym (at_check room last input at d) ∙ e))
    (λ (d : check_due (suc room) input at ≡ false).
    let t = then_ok (word_at last input at) (with_word room input at) ws (sym (at_word room last input at d) ∙ e) in
    let w = t.0 in
    let u = then_ok (words_from room w.form input (behind at w)) (λ vs. Ok (w ∷ vs)) ws t.2 in
    let vs = u.0 in
    let both = u.2 in
    let n : ◌≡◌ {A = List Word} (w ∷ vs) ws = cc in
    let P : List Word → Type 0 = Read (suc room) last input at in
    subst P n (more_read room last input at w vs (word_stands last input at w real t.1) (words_read room w.form input (behind at w) vs real u.1)))
    (cases_Bool (check_due (suc room) input at))

-- the head
record Headings (input : List ℕ) (h : SheetHead) : Type 0 where
  pub numbered : (1 ≤ h.number) × (h.number < 2 ^ 32)
  pub stepped : (1 ≤ h.step) × (h.step < 2 ^ 16)
  pub written : take 10 input ≡ head_field h

head_parts : (b : List ℕ) (h : SheetHead) → head_in b ≡ Ok h → (get_or b 0 0 ≡ 1) × (0 < four b 1) × (0 < two b 5) × (h.number ≡ four b 1) × (h.step ≡ two b 5)
head_parts b h e =
    let made : SheetHead = record { number = four b 1; step = two b 5 } in
    ⊎_elim
    (λ (m : (eqb (get_or b 0 0) 1 && (ltb 0 (four b 1) && ltb 0 (two b 5))) ≡ true).
    let f = sym (cond-true (eqb (get_or b 0 0) 1 && (ltb 0 (four b 1) && ltb 0 (two b 5))) _ _ m) ∙ e in
    let q : made ≡ h = cc in
    let p = and_parts (eqb (get_or b 0 0) 1) (ltb 0 (four b 1) && ltb 0 (two b 5)) m in
    let r = and_parts (ltb 0 (four b 1)) (ltb 0 (two b 5)) p.1 in
    (eqb-true (get_or b 0 0) 1 p.0, ltb-true 0 (four b 1) r.0, ltb-true 0 (two b 5) r.1, sym (ap (λ (x : SheetHead). x.number) q), sym (ap (λ (x : SheetHead). x.step) q)))
    (λ (m : (eqb (get_or b 0 0) 1 && (ltb 0 (four b 1) && ltb 0 (two b 5))) ≡ false). absurd (never BadValue h (sym (cond-false (eqb (get_or b 0 0) 1 && (ltb 0 (four b 1) && ltb 0 (two b 5))) _ _ m) ∙ e)))
    (cases_Bool (eqb (get_or b 0 0) 1 && (ltb 0 (four b 1) && ltb 0 (two b 5))))

head_stands : (input : List ℕ) (h : SheetHead) → bytes input ≡ true → head_at input 0 ≡ Ok h → Headings input h
unfolding head_at
head_stands input h real e =
    let t = content_stands head_in 0x21 7 7 input 0 h real e in
    let b = t.0 in
    let s = t.1 in
    let p = head_parts b h t.2 in
    let l : length b ≡ 7 = omega (arith, s.long, s.short) in
    let n = p.3 in
    let k = p.4 in
    let body = head_body b h.number h.step s.real l p.0 n k in
    let ten : 0 + (3 + length b) ≡ 10 = omega arith in
    record {
      numbered = (omega (arith, p.1), omega (arith, four_small b 1 s.real));
      stepped = (omega (arith, p.2), omega (arith, two_small b 5 s.real));
      written = ap (λ (m : ℕ). take m input) (sym ten) ∙ s.written ∙ ap (field 0x21) body;
    }

pub written_again : (bs : List ℕ) (s : Sheet) → bytes bs ≡ true → reads bs ≡ Ok s → Allowed s × (writes s ≡ bs)
unfolding reads
written_again bs s real e =
    let go : SheetHead → Result Sheet Refusal = λ h. then (words_from 256 [] bs 10) (λ ws. Ok (record { head = h; words = ws })) in
    let t = then_ok (head_at bs 0) go s e in
    let h = t.0 in
    let u = then_ok (words_from 256 [] bs 10) (λ ws. Ok (record { head = h; words = ws })) s t.2 in
    let ws = u.0 in
    let both = u.2 in
    let made : Sheet = record { head = h; words = ws } in
    let n : made ≡ s = cc in
    let a = head_stands bs h real t.1 in
    let r = words_read 256 [] bs 10 ws real u.1 in
    let P : Sheet → Type 0 = λ s. Allowed s × (writes s ≡ bs) in
    subst P n (
      record { numbered = a.numbered; stepped = a.stepped; some = r.some (omega arith); few = r.few; shaped = each_lawful ws r.shaped; rising = pairs [] ws r.rising },
      ap (λ (t : List ℕ). checked (t ++ word_fields ws)) (sym a.written) ∙ r.whole,
    )
