-- One byte more of each reading. Assumes nothing.
use Rattle.std.proofs.Common.{◌≡◌, ℕ, ◌+◌, ◌-◌, ◌*◌, ◌^◌, ◌<◌, ◌≤◌, Bool, true, false, cond, List, [], ◌∷◌, ◌++◌, length, get_or, take, drop, Some, None, IsUtf8, IsAscii, Option, sym, refl, ap, ◌∙◌, append_assoc, mul_comm, arith, length-drop, pow-add}
use Rattle.std.proofs.lemmas.List.{at_drop_more, at_drop_all, get_or-drop, take_more, take_rest}
use Rattle.std.proofs.lemmas.Str.Ascii.{IsAscii-nil, IsAscii-cons}
use Rattle.std.proofs.lemmas.Bool.{and_parts}
use Rattle.std.proofs.lemmas.Str.{IsUtf8-from_ascii}
use Rattle.std.proofs.lemmas.Bool.Decides.{nat_tests}
use Rattle.words.specs.Hex.{pair_of, before, pairs_of}
use Rattle.words.specs.Lines.{blank, ended, words_from}
use Rattle.words.specs.Names.{letter, lettered}

-- bytes, and then those of a reading
abbrev pub behind : List ℕ → Option (List ℕ) → Option (List ℕ)
behind xs None = None
behind xs (Some ys) = Some (xs ++ ys)

chosen : {A : Type 0} (b : Bool) (x y : A) → b ≡ true → cond b x y ≡ x
chosen b x y e = rw e

other : {A : Type 0} (b : Bool) (x y : A) → b ≡ false → cond b x y ≡ y
other b x y e = rw e

pub ten_more : (i : ℕ) → 10 ^ (i + 1) ≡ 10 * 10 ^ i
ten_more i = pow-add 10 i 1 ∙ mul_comm (10 ^ i) 10

-- a separator at i ends the word before it
pub words_blank : (w line : List ℕ) (i : ℕ) → i < length line → blank (get_or line i 0) ≡ true → words_from w (drop i line) ≡ ended w (words_from [] (drop (i + 1) line))
unfolding words_from
words_blank w line i l e = at_drop_more (words_from w) line i 0 l ∙ chosen (blank (get_or line i 0)) _ _ e

-- another byte at i goes on with it
pub words_letter : (w line : List ℕ) (i : ℕ) → i < length line → blank (get_or line i 0) ≡ false → words_from w (drop i line) ≡ words_from (w ++ get_or line i 0 ∷ []) (drop (i + 1) line)
unfolding words_from
words_letter w line i l e = at_drop_more (words_from w) line i 0 l ∙ other (blank (get_or line i 0)) _ _ e

pub words_all : (w line : List ℕ) (i : ℕ) → length line ≤ i → words_from w (drop i line) ≡ ended w []
unfolding words_from
words_all w line i l = at_drop_all (words_from w) line i l

pub ended_none : (w : List ℕ) → length w ≡ 0 → ended w [] ≡ []
ended_none [] e = refl
ended_none (b ∷ w) e = absurd (omega arith)

pub ended_some : (w : List ℕ) → 0 < length w → ended w [] ≡ w ∷ []
ended_some [] e = absurd (omega arith)
ended_some (b ∷ w) e = refl

ended_append : (w : List ℕ) (ws : List (List ℕ)) → ended w ws ≡ ended w [] ++ ws
ended_append [] ws = refl
ended_append (b ∷ w) ws = refl

module _ (line : List ℕ) (start i : ℕ) (sound : start ≤ i) (ws o : List (List ℕ)) (h : ws ++ words_from (take (i - start) (drop start line)) (drop i line) ≡ o) where
  -- a turn at a separator
  pub blank_turn : (more : List (List ℕ)) (next : ℕ) → i < length line → blank (get_or line i 0) ≡ true → more ≡ ws ++ ended (take (i - start) (drop start line)) [] → next ≡ i + 1 → (next ≤ i + 1) × (more ++ words_from (take (i + 1 - next) (drop next line)) (drop (i + 1) line) ≡ o)
  blank_turn more next l e is at =
      let w = take (i - start) (drop start line) in
      let none : i + 1 - next ≡ 0 = omega arith in
      let rest = words_from [] (drop (i + 1) line) in (
        omega arith,
        ap (λ k. more ++ words_from (take k (drop next line)) (drop (i + 1) line)) none ∙ ap (λ xs. xs ++ rest) is ∙ append_assoc ws (ended w []) rest
            ∙ ap (λ xs. ws ++ xs) (sym (words_blank w line i l e ∙ ended_append w rest)) ∙ h,
      )

  -- a turn at another byte
  pub letter_turn : (more : List (List ℕ)) (next : ℕ) → i < length line → blank (get_or line i 0) ≡ false → more ≡ ws → next ≡ start → (next ≤ i + 1) × (more ++ words_from (take (i + 1 - next) (drop next line)) (drop (i + 1) line) ≡ o)
  letter_turn more next l e is at =
      let xs = drop start line in
      let past : i + 1 - start ≡ i - start + 1 = omega arith in
      let there : start + (i - start) ≡ i = omega arith in
      let inside : i - start < length xs = simp length-drop (omega arith) in
      let byte : get_or xs (i - start) 0 ≡ get_or line i 0 = get_or-drop start line (i - start) 0 ∙ ap (λ k. get_or line k 0) there in
      let word : take (i + 1 - start) xs ≡ take (i - start) xs ++ get_or line i 0 ∷ [] = ap (λ k. take k xs) past ∙ take_more xs (i - start) 0 inside ∙ ap (λ b. take (i - start) xs ++ b ∷ []) byte in (
        omega arith,
        (λ j. is j ++ words_from (take (i + 1 - at j) (drop (at j) line)) (drop (i + 1) line)) ∙ ap (λ w. ws ++ words_from w (drop (i + 1) line)) word
            ∙ ap (λ vs. ws ++ vs) (sym (words_letter (take (i - start) xs) line i l e)) ∙ h,
      )

  -- the end of the line
  pub line_end : (more : List (List ℕ)) → i ≡ length line → more ≡ ws ++ ended (take (length line - start) (drop start line)) [] → more ≡ o
  line_end more at is =
      let w = take (length line - start) (drop start line) in
      is ∙ ap (λ vs. ws ++ vs) (sym (words_all w line i (omega arith))) ∙ ap (λ k. ws ++ words_from (take (k - start) (drop start line)) (drop i line)) (sym at) ∙ h

pub pairs_more : (w : List ℕ) (x : ℕ) → 2 ≤ length w → pair_of (get_or w 0 0) (get_or w 1 0) ≡ Some x → pairs_of w ≡ before (Some x) (pairs_of (drop 2 w))
unfolding pairs_of
pairs_more [] x l e = absurd (omega arith)
pairs_more (a ∷ []) x l e = absurd (omega arith)
pairs_more (a ∷ b ∷ w) x l e = ap (λ p. before p (pairs_of w)) e

-- a byte more stands behind the others, or before those that follow
pub behind_more : (xs : List ℕ) (x : ℕ) (o : Option (List ℕ)) → behind xs (before (Some x) o) ≡ behind (xs ++ x ∷ []) o
behind_more xs x None = refl
behind_more xs x (Some ys) = ap Some (sym (append_assoc xs (x ∷ []) ys))

-- a turn over two digits
pub pairs_turn : (all more w : List ℕ) (x : ℕ) (o : Option (List ℕ)) → more ≡ all ++ x ∷ [] → 2 ≤ length w → pair_of (get_or w 0 0) (get_or w 1 0) ≡ Some x → behind all (pairs_of w) ≡ o → behind more (pairs_of (take (length w - 2) (drop 2 w))) ≡ o
pairs_turn all more w x o is l e h =
    (λ i. behind (is i) (pairs_of (take_rest w 2 i))) ∙ sym (behind_more all x (pairs_of (drop 2 w))) ∙ sym (ap (behind all) (pairs_more w x l e)) ∙ h

letter_ascii : (b : ℕ) → letter b ≡ true → b < 128
letter_ascii b e = grind (arith, nat_tests)

lettered_ascii : (w : List ℕ) → lettered w ≡ true → IsAscii w
lettered_ascii [] e = IsAscii-nil
lettered_ascii (b ∷ w) e =
    let parts = and_parts (letter b) (lettered w) e in
    IsAscii-cons b w (letter_ascii b parts.0) (lettered_ascii w parts.1)

pub name_utf8 : (w : List ℕ) → lettered w ≡ true → IsUtf8 w
name_utf8 w e = IsUtf8-from_ascii w (lettered_ascii w e)
