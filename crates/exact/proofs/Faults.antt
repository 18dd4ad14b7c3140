-- Rows that are refused as not ascending.
use Rattle.std.proofs.Common.{◌≡◌, ℕ, zero, suc, ◌<◌, ◌≤◌, Bool, true, false, cond, ◌&&◌, leb, List, [], ◌∷◌, ◌++◌, length, take, drop, sym, refl, ap, ◌∙◌, ⊎_elim, arith}
use Rattle.std.proofs.lemmas.List.{append_assoc, length-take-le, take-append-drop}
use Rattle.std.proofs.lemmas.Bool.{and_parts, and_from, cases_Bool, cond-true, cond-false, leb-true}
use Rattle.passes.specs.Lawful.{lawful}
use Rattle.passes.specs.Order.{before}
use Rattle.filters.specs.Kind.{Content, fine, misvalued, unsorted}
use Rattle.exact.specs.Rows.{row, pack, all_lawful, above, whole, judge_from}
use Rattle.exact.specs.RowLaws.{row_judged, no_row}

-- the last of some forms, behind a form
abbrev pub latest : List ℕ → List (List ℕ) → List ℕ
latest last [] = last
latest last (f ∷ fs) = latest f fs

-- rows that pass, and then the row of a lawful form that does not stand above them
pub record Fault (room : ℕ) (last body : List ℕ) : Type 0 where
  pub forms : List (List ℕ)
  pub next : List ℕ
  pub more : List ℕ
  pub few : length forms < room
  pub shaped : all_lawful forms ≡ true
  pub rising : above last forms ≡ true
  pub fits : lawful next ≡ true
  pub low : before (latest last forms) next ≡ false
  pub packed : pack forms ++ (row next ++ more) ≡ body

apart_fine : fine ≡ unsorted → ⊥
apart_fine e = cc

apart : misvalued ≡ unsorted → ⊥
apart e = cc

passed : (b : Bool) (x : Content) → cond b x misvalued ≡ unsorted → (b ≡ true) × (x ≡ unsorted)
passed true x e = (refl, e)
passed false x e = absurd (apart e)

full : (k : ℕ) (last rest : List ℕ) → judge_from zero last (k ∷ rest) ≡ unsorted → ⊥
unfolding judge_from
full k last rest e = apart e

first_row : (room k : ℕ) (last rest : List ℕ) → judge_from (suc room) last (k ∷ rest) ≡ unsorted → ((k ≤ length rest) × (lawful (take k rest) ≡ true)) × (cond (before last (take k rest)) (judge_from room (take k rest) (drop k rest)) unsorted ≡ unsorted)
unfolding judge_from
first_row room k last rest e =
    let p = passed (whole k rest && lawful (take k rest)) _ e in
    let w = and_parts (whole k rest) (lawful (take k rest)) p.0 in
    let s = and_parts (leb 4 k && leb k 23) (leb k (length rest)) w.0 in
    ((leb-true k (length rest) s.1, w.1), p.1)

-- a row put together again
whole_row : (k : ℕ) (rest : List ℕ) → k ≤ length rest → row (take k rest) ++ drop k rest ≡ k ∷ rest
whole_row k rest l = rw (length-take-le k rest l) (ap (λ (xs : List ℕ). k ∷ xs) (take-append-drop k rest))

pub fault : (room : ℕ) (last body : List ℕ) → judge_from room last body ≡ unsorted → Fault room last body
fault room last [] e = absurd (apart_fine (sym (no_row room last) ∙ e))
fault zero last (k ∷ rest) e = absurd (full k last rest e)
fault (suc room) last (k ∷ rest) e =
    let p = first_row room k last rest e in
    let f = take k rest in
    let together = whole_row k rest p.0.0 in
    ⊎_elim
    (λ (b : before last f ≡ true).
    let h = fault room f (drop k rest) (sym (cond-true (before last f) (judge_from room f (drop k rest)) unsorted b) ∙ p.1) in
    let n = h.few in
    record {
      forms = f ∷ h.forms;
      next = h.next;
      more = h.more;
      few = omega arith;
      shaped = and_from (lawful f) (all_lawful h.forms) p.0.1 h.shaped;
      rising = and_from (before last f) (above f h.forms) b h.rising;
      fits = h.fits;
      low = h.low;
      packed = append_assoc (row f) (pack h.forms) (row h.next ++ h.more) ∙ ap (λ (xs : List ℕ). row f ++ xs) h.packed ∙ together;
    })
    (λ (b : before last f ≡ false). record { forms = []; next = f; more = drop k rest; few = omega arith; shaped = refl; rising = refl; fits = p.0.1; low = b; packed = together })
    (cases_Bool (before last f))

pub faulty : (room : ℕ) (last : List ℕ) (fs : List (List ℕ)) (f more : List ℕ) → length fs < room → all_lawful fs ≡ true → above last fs ≡ true → lawful f ≡ true → before (latest last fs) f ≡ false → judge_from room last (pack fs ++ (row f ++ more)) ≡ unsorted
faulty zero last fs f more n s r w b = absurd (omega arith)
faulty (suc room) last [] f more n s r w b = row_judged room last f more w ∙ cond-false (before last f) (judge_from room f more) unsorted b
faulty (suc room) last (g ∷ gs) f more n s r w b =
    let p = and_parts (lawful g) (all_lawful gs) s in
    let q = and_parts (before last g) (above g gs) r in
    ap (judge_from (suc room) last) (append_assoc (row g) (pack gs) (row f ++ more))
    ∙ row_judged room last g (pack gs ++ (row f ++ more)) p.0
    ∙ cond-true (before last g) _ unsorted q.0
    ∙ faulty room g gs f more (omega arith) p.1 q.1 w b

-- one more form behind others

pub push_lawful : (fs : List (List ℕ)) (f : List ℕ) → all_lawful fs ≡ true → lawful f ≡ true → all_lawful (fs ++ f ∷ []) ≡ true
push_lawful [] f s w = and_from (lawful f) true w refl
push_lawful (g ∷ gs) f s w = let p = and_parts (lawful g) (all_lawful gs) s in and_from (lawful g) (all_lawful (gs ++ f ∷ [])) p.0 (push_lawful gs f p.1 w)

pub push_above : (last : List ℕ) (fs : List (List ℕ)) (f : List ℕ) → above last fs ≡ true → before (latest last fs) f ≡ true → above last (fs ++ f ∷ []) ≡ true
push_above last [] f r b = and_from (before last f) true b refl
push_above last (g ∷ gs) f r b = let p = and_parts (before last g) (above g gs) r in and_from (before last g) (above g (gs ++ f ∷ [])) p.0 (push_above g gs f p.1 b)

pub pushed_above : (last : List ℕ) (fs : List (List ℕ)) (f : List ℕ) → above last (fs ++ f ∷ []) ≡ true → before (latest last fs) f ≡ true
pushed_above last [] f r = (and_parts (before last f) true r).0
pushed_above last (g ∷ gs) f r = pushed_above g gs f (and_parts (before last g) (above g (gs ++ f ∷ [])) r).1
