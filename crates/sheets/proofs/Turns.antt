-- What is still to be judged at each stage, and how one field changes it.
use Rattle.std.proofs.Common.{◌≡◌, ℕ, zero, suc, ◌+◌, ◌-◌, ◌<◌, ◌≤◌, true, false, ◌⊎◌, List, [], ◌∷◌, length, Ok, Err, Result, sym, refl, ap, ◌∙◌, inl, inr, ⊎_elim, add-zero, zero-add, arith}
use Rattle.std.proofs.lemmas.Bool.{cases_Bool, cond-true, cond-false, true≢false}
use Rattle.refusals.specs.declared.Refusal.{Refusal}
use Rattle.fields.specs.Reading.{then, check_at}
use Rattle.fields.proofs.Steps.{never}
use Rattle.fields.proofs.Stands.{then_ok}
use Rattle.sheets.specs.declared.Stage.{Stage}
use Rattle.sheets.specs.declared.Stage.TheVariants.{Head, Words, Done}
use Rattle.sheets.specs.declared.SheetHead.{SheetHead}
use Rattle.sheets.specs.declared.SheetSummary.{SheetSummary}
use Rattle.sheets.specs.Sheets.{Word}
use Rattle.sheets.specs.Reading.{head_at, word_at, check_due, behind, words_from, reads, summary}
use Rattle.sheets.specs.Stages.{Content, head, word, end, State, standing, next_at}
use Rattle.sheets.proofs.Readback.{ended, with_word, at_check, at_word}

-- a summary with so many words more
abbrev pub plus : SheetSummary → List Word → SheetSummary
plus s ws = record { head = s.head; words = s.words + length ws }

-- what is judged from a stage on
abbrev pub finish : Stage → List ℕ → List ℕ → ℕ → SheetSummary → Result SheetSummary Refusal
finish Head last input at s = then (head_at input at) (λ h. then (words_from 256 last input (at + 10)) (λ ws. Ok (plus (record { head = h; words = s.words }) ws)))
finish (Words room) last input at s = then (words_from room last input at) (λ ws. Ok (plus s ws))
finish Done last input at s = Ok s

-- how many fields may follow
abbrev pub fields_left : Stage → ℕ
fields_left Head = 258
fields_left (Words room) = room + 1
fields_left Done = 0

begun : (h : SheetHead) (r : Result (List Word) Refusal) → then r (λ ws. Ok (plus (record { head = h; words = 0 }) ws)) ≡ then (then r (λ ws. Ok (record { head = h; words = ws }))) (λ s. Ok (summary s))
begun h (Ok ws) = ap (λ (k : ℕ). Ok (record { head = h; words = k })) (zero-add (length ws))
begun h (Err e) = refl

begun_head : (input : List ℕ) (t : Result SheetHead Refusal) → then t (λ h. then (words_from 256 [] input 10) (λ ws. Ok (plus (record { head = h; words = 0 }) ws))) ≡ then (then t (λ h. then (words_from 256 [] input 10) (λ ws. Ok (record { head = h; words = ws })))) (λ s. Ok (summary s))
begun_head input (Ok h) = begun h (words_from 256 [] input 10)
begun_head input (Err e) = refl

-- at first everything is to be judged
pub all_left : (input : List ℕ) (h : SheetHead) → finish Head [] input 0 (record { head = h; words = 0 }) ≡ then (reads input) (λ s. Ok (summary s))
unfolding reads
all_left input h = begun_head input (head_at input 0)

parts : (c d : Content) (x y : State) → ◌≡◌ {A = Result (Content × State) Refusal} (Ok (c, x)) (Ok (d, y)) → (c ≡ d) × (x ≡ y)
parts c d x y e =
    let q : ◌≡◌ {A = Content × State} (c, x) (d, y) = cc in
    (ap (λ (p : Content × State). p.0) q, ap (λ (p : Content × State). p.1) q)

head_end : (h : SheetHead) → ◌≡◌ {A = Content} end (head h) → ⊥
head_end h e = let z : ◌≡◌ {A = ℕ} 0 1 = cc in omega arith

head_word : (w : Word) (h : SheetHead) → ◌≡◌ {A = Content} (word w) (head h) → ⊥
head_word w h e = let z : ◌≡◌ {A = ℕ} 0 1 = cc in omega arith

word_end : (w : Word) → ◌≡◌ {A = Content} end (word w) → ⊥
word_end w e = let z : ◌≡◌ {A = ℕ} 0 1 = cc in omega arith

-- what was read where words are due
record Ended (input last : List ℕ) (at room : ℕ) (c : Content) (x : State) : Type 0 where
  pub due : check_due room input at ≡ true
  pub unit : Unit {0}
  pub read : check_at input at ≡ Ok unit
  pub content : end ≡ c
  pub stands : standing Done last (at + 7) ≡ x

record Went (input last : List ℕ) (at room : ℕ) (c : Content) (x : State) : Type 0 where
  pub due : check_due room input at ≡ false
  pub next : Word
  pub read : word_at last input at ≡ Ok next
  pub content : word next ≡ c
  pub stands : standing (Words (room - 1)) next.form (behind at next) ≡ x

words_next : (input last : List ℕ) (at room : ℕ) (c : Content) (x : State) → next_at input (Words room) last at ≡ Ok (c, x) → Ended input last at room c x ⊎ Went input last at room c x
words_next input last at room c x e =
    ⊎_elim
    (λ (d : check_due room input at ≡ true).
    let t = then_ok (check_at input at) (λ _. Ok (end, standing Done last (at + 7))) (c, x) (sym (cond-true (check_due room input at) _ _ d) ∙ e) in
    let p = parts end c (standing Done last (at + 7)) x t.2 in
    inl (record { due = d; unit = t.0; read = t.1; content = p.0; stands = p.1 }))
    (λ (d : check_due room input at ≡ false).
    let t = then_ok (word_at last input at) (λ w. Ok (word w, standing (Words (room - 1)) w.form (behind at w))) (c, x) (sym (cond-false (check_due room input at) _ _ d) ∙ e) in
    let w = t.0 in
    let p = parts (word w) c (standing (Words (room - 1)) w.form (behind at w)) x t.2 in
    inr (record { due = d; next = w; read = t.1; content = p.0; stands = p.1 }))
    (cases_Bool (check_due room input at))

-- what is judged from a state on
abbrev pub from : List ℕ → SheetSummary → State → Result SheetSummary Refusal
from input s x = finish x.stage x.last input x.at s

-- the head was read
pub head_turn : (stage : Stage) (input last : List ℕ) (at : ℕ) (s : SheetSummary) (h : SheetHead) (x : State) → next_at input stage last at ≡ Ok (head h, x) → (finish stage last input at s ≡ from input (record { head = h; words = s.words }) x) × (fields_left x.stage < fields_left stage)
head_turn Head input last at s h x e =
    let t = then_ok (head_at input at) (λ k. Ok (head k, standing (Words 256) last (at + 10))) (head h, x) e in
    let p = parts (head t.0) (head h) (standing (Words 256) last (at + 10)) x t.2 in
    let c = p.0 in
    let same : t.0 ≡ h = cc in
    let go : SheetHead → Result SheetSummary Refusal = λ k. then (words_from 256 last input (at + 10)) (λ ws. Ok (plus (record { head = k; words = s.words }) ws)) in
    let left = ap (λ (z : State). fields_left z.stage) p.1 in
    (ap (λ (r : Result SheetHead Refusal). then r go) t.1 ∙ ap go same ∙ ap (from input (record { head = h; words = s.words })) p.1, omega arith)
head_turn (Words room) input last at s h x e = absurd (⊎_elim (λ n. head_end h n.content) (λ n. head_word n.next h n.content) (words_next input last at room (head h) x e))
head_turn Done input last at s h x e = absurd (head_end h (parts end (head h) (standing Done last at) x e).0)

more_words : (s : SheetSummary) (w : Word) (r : Result (List Word) Refusal) → then (then r (λ ws. Ok (w ∷ ws))) (λ ws. Ok (plus s ws)) ≡ then r (λ ws. Ok (plus (record { head = s.head; words = s.words + 1 }) ws))
more_words s w (Ok ws) = let z : s.words + suc (length ws) ≡ s.words + 1 + length ws = omega arith in ap (λ (k : ℕ). Ok (record { head = s.head; words = k })) z
more_words s w (Err e) = refl

word_went : (room : ℕ) (input last : List ℕ) (at : ℕ) (s : SheetSummary) (c : Content) (x : State) → Went input last at room c x → (finish (Words room) last input at s ≡ from input (record { head = s.head; words = s.words + 1 }) x) × (fields_left x.stage < fields_left (Words room))
unfolding with_word
word_went zero input last at s c x n = absurd (true≢false n.due)
word_went (suc room) input last at s c x n =
    let w = n.next in
    let z : suc room - 1 ≡ room = omega arith in
    let on = at_word room last input at n.due ∙ ap (λ (r : Result Word Refusal). then r (with_word room input at)) n.read in
    let left = ap (λ (y : State). fields_left y.stage) n.stands in (
      ap (λ (r : Result (List Word) Refusal). then r (λ ws. Ok (plus s ws))) on
          ∙ more_words s w (words_from room w.form input (behind at w))
          ∙ ap (λ (k : ℕ). from input (record { head = s.head; words = s.words + 1 }) (standing (Words k) w.form (behind at w))) (sym z)
          ∙ ap (from input (record { head = s.head; words = s.words + 1 })) n.stands,
      omega arith,
    )

-- a word was read
pub word_turn : (stage : Stage) (input last : List ℕ) (at : ℕ) (s : SheetSummary) (w : Word) (x : State) → next_at input stage last at ≡ Ok (word w, x) → (finish stage last input at s ≡ from input (record { head = s.head; words = s.words + 1 }) x) × (fields_left x.stage < fields_left stage)
word_turn Head input last at s w x e =
    let t = then_ok (head_at input at) (λ k. Ok (head k, standing (Words 256) last (at + 10))) (word w, x) e in
    absurd (head_word w t.0 (sym (parts (head t.0) (word w) (standing (Words 256) last (at + 10)) x t.2).0))
word_turn (Words room) input last at s w x e = ⊎_elim (λ n. absurd (word_end w n.content)) (λ n. word_went room input last at s (word w) x n) (words_next input last at room (word w) x e)
word_turn Done input last at s w x e = absurd (word_end w (parts end (word w) (standing Done last at) x e).0)

-- the check alone is due
due_ends : (room : ℕ) (input last : List ℕ) (at : ℕ) → check_due room input at ≡ true → words_from room last input at ≡ ended input at
unfolding words_from ended
due_ends zero input last at d = refl
due_ends (suc room) input last at d = at_check room last input at d

-- the end was read
pub end_turn : (stage : Stage) (input last : List ℕ) (at : ℕ) (s : SheetSummary) (x : State) → next_at input stage last at ≡ Ok (end, x) → finish stage last input at s ≡ Ok s
unfolding ended
end_turn Head input last at s x e =
    let t = then_ok (head_at input at) (λ k. Ok (head k, standing (Words 256) last (at + 10))) (end, x) e in
    absurd (head_end t.0 (sym (parts (head t.0) end (standing (Words 256) last (at + 10)) x t.2).0))
end_turn (Words room) input last at s x e =
    ⊎_elim
    (λ n.
    ap (λ (r : Result (List Word) Refusal). then r (λ ws. Ok (plus s ws))) (due_ends room input last at n.due ∙ ap (λ (r : Result (Unit {0}) Refusal). then r (λ _. Ok [])) n.read)
    ∙ ap (λ (k : ℕ). Ok (record { head = s.head; words = k })) (add-zero s.words))
    (λ n. absurd (word_end n.next (sym n.content)))
    (words_next input last at room end x e)
end_turn Done input last at s x e = refl

then_err : {A B : Type 0} (t : Result A Refusal) (f : A → B) (e : Refusal) → then t (λ a. Ok (f a)) ≡ Err e → t ≡ Err e
then_err (Ok a) f e p = absurd (never e (f a) (sym p))
then_err (Err x) f e p = let q : x ≡ e = cc in ap Err q

refused_words : (room : ℕ) (input last : List ℕ) (at : ℕ) (e : Refusal) → next_at input (Words room) last at ≡ Err e → words_from room last input at ≡ Err e
unfolding words_from ended
refused_words zero input last at e p =
    ap (λ (r : Result (Unit {0}) Refusal). then r (λ _. Ok [])) (then_err (check_at input at) (λ _. (end, standing Done last (at + 7))) e p)
refused_words (suc room) input last at e p =
    ⊎_elim
    (λ (d : check_due (suc room) input at ≡ true).
    let q = then_err (check_at input at) (λ _. (end, standing Done last (at + 7))) e (sym (cond-true (check_due (suc room) input at) _ _ d) ∙ p) in
    at_check room last input at d ∙ ap (λ (r : Result (Unit {0}) Refusal). then r (λ _. Ok [])) q)
    (λ (d : check_due (suc room) input at ≡ false).
    let q = then_err (word_at last input at) (λ w. (word w, standing (Words (suc room - 1)) w.form (behind at w))) e (sym (cond-false (check_due (suc room) input at) _ _ d) ∙ p) in
    at_word room last input at d ∙ ap (λ (r : Result Word Refusal). then r (with_word room input at)) q)
    (cases_Bool (check_due (suc room) input at))

-- a field was refused
pub refused_turn : (stage : Stage) (input last : List ℕ) (at : ℕ) (s : SheetSummary) (e : Refusal) → next_at input stage last at ≡ Err e → finish stage last input at s ≡ Err e
refused_turn Head input last at s e p =
    let q = then_err (head_at input at) (λ k. (head k, standing (Words 256) last (at + 10))) e p in
    ap (λ (r : Result SheetHead Refusal). then r (λ h. then (words_from 256 last input (at + 10)) (λ ws. Ok (plus (record { head = h; words = s.words }) ws)))) q
refused_turn (Words room) input last at s e p = ap (λ (r : Result (List Word) Refusal). then r (λ ws. Ok (plus s ws))) (refused_words room input last at e p)
refused_turn Done input last at s e p = absurd (never e (end, standing Done last at) (sym p))

-- one turn of the loop over the fields: what is still to be judged stays the same
module _ (stage : Stage) (input0 input last : List ℕ) (at : ℕ) (s : SheetSummary) (total : Result SheetSummary Refusal) (i : input0 ≡ input) (j : finish stage last input at s ≡ total) where
  moved : {r : Result (Content × State) Refusal} → next_at input0 stage last at ≡ r → next_at input stage last at ≡ r
  moved e = ap (λ (t : List ℕ). next_at t stage last at) (sym i) ∙ e

  pub again_head : (c : Content) (h : SheetHead) (x : State) → next_at input0 stage last at ≡ Ok (c, x) → c ≡ head h → s.words + fields_left stage ≤ 258 → (from input (record { head = h; words = s.words }) x ≡ total) × (s.words + fields_left x.stage ≤ 258)
  again_head c h x e k l =
      let t = head_turn stage input last at s h x (moved e ∙ ap (λ (z : Content). Ok (z, x)) k) in
      let n = t.1 in
      (sym t.0 ∙ j, omega arith)

  pub again_word : (c : Content) (w : Word) (x : State) → next_at input0 stage last at ≡ Ok (c, x) → c ≡ word w → s.words + fields_left stage ≤ 258 → (from input (record { head = s.head; words = s.words + 1 }) x ≡ total) × (s.words + 1 + fields_left x.stage ≤ 258)
  again_word c w x e k l =
      let t = word_turn stage input last at s w x (moved e ∙ ap (λ (z : Content). Ok (z, x)) k) in
      let n = t.1 in
      (sym t.0 ∙ j, omega arith)

  pub at_end : (c : Content) (x : State) → next_at input0 stage last at ≡ Ok (c, x) → c ≡ end → Ok s ≡ total
  at_end c x e k = sym (end_turn stage input last at s x (moved e ∙ ap (λ (z : Content). Ok (z, x)) k)) ∙ j

  pub at_refusal : (f : Refusal) → next_at input0 stage last at ≡ Err f → Err f ≡ total
  at_refusal f e = sym (refused_turn stage input last at s f (moved e)) ∙ j

-- a reader that has read nothing yet
pub at_start : (stage : Stage) (input last : List ℕ) (at : ℕ) (h : SheetHead) → at ≡ 0 → last ≡ [] → stage ≡ Head → (finish stage last input at (record { head = h; words = 0 }) ≡ then (reads input) (λ s. Ok (summary s))) × (0 + fields_left stage ≤ 258)
at_start stage input last at h a l e =
    let start : State = standing Head [] 0 in
    let same : standing stage last at ≡ start = cc in
    let left = ap fields_left e in
    (ap (from input (record { head = h; words = 0 })) same ∙ all_left input h, omega arith)
