-- Writers one behind the other.
use Rattle.std.proofs.Common.{◌≡◌, ℕ, ◌+◌, ◌-◌, ◌<◌, ◌≤◌, true, false, leb, List, [], ◌∷◌, ◌++◌, length, get_or, take, drop, Some, None, Option, sym, refl, ap, ◌∙◌, subst, ⊎_elim, arith}
use borrow.Rule.Slice.PartMut.{put_mid}
use Rattle.std.proofs.lemmas.List.{append_assoc, append-nil, length-append, length-drop, drop_at, drop_all, drop-drop, take_at, take_rest, take_more, take-append-drop}
use Rattle.std.proofs.lemmas.Bool.{cases_Bool, cases_lt, cond-true, cond-false, le-leb, lt-leb, leb-true, leb-false}
use Rattle.passes.specs.Outputs.{written_to, joined}

-- what a writer that wrote something did
pub record Wrote (bs out now_out : List ℕ) (n : ℕ) : Type 0 where
  pub size : n ≡ length bs
  pub room : length bs ≤ length out
  pub bytes : now_out ≡ bs ++ drop (length bs) out

none_some : (n : ℕ) → ◌≡◌ {A = Option ℕ} (Some n) None → ⊥
none_some n e = let z : ◌≡◌ {A = ℕ} 0 1 = cc in omega arith

pub wrote : (bs out now_out : List ℕ) (n : ℕ) → ◌≡◌ {A = Option ℕ × List ℕ} (Some n, now_out) (written_to bs out) → Wrote bs out now_out n
wrote bs out now_out n e =
    let yes_way : Option ℕ × List ℕ = (Some (length bs), bs ++ drop (length bs) out) in
    let no_way : Option ℕ × List ℕ = (None, out) in
    let fst : Option ℕ × List ℕ → Option ℕ = λ p. p.0 in
    let snd : Option ℕ × List ℕ → List ℕ = λ p. p.1 in
    ⊎_elim
    (λ (t : leb (length bs) (length out) ≡ true).
    let f = e ∙ cond-true (leb (length bs) (length out)) yes_way no_way t in
    let a = ap fst f in
    record { size = cc; room = leb-true (length bs) (length out) t; bytes = ap snd f })
    (λ (t : leb (length bs) (length out) ≡ false). absurd (none_some n (ap fst (e ∙ cond-false (leb (length bs) (length out)) yes_way no_way t))))
    (cases_Bool (leb (length bs) (length out)))

pub wrote_to : (bs out now_out : List ℕ) (n : ℕ) → Wrote bs out now_out n → ◌≡◌ {A = Option ℕ × List ℕ} (Some n, now_out) (written_to bs out)
wrote_to bs out now_out n w =
    let yes_way : Option ℕ × List ℕ = (Some (length bs), bs ++ drop (length bs) out) in
    let no_way : Option ℕ × List ℕ = (None, out) in
    let a = w.size in
    let b = w.bytes in
    (let z : ◌≡◌ {A = Option ℕ × List ℕ} (Some n, now_out) yes_way = cc in z) ∙ sym (cond-true (leb (length bs) (length out)) yes_way no_way (le-leb (length bs) (length out) w.room))

-- a writer whose bytes fit
pub wrote_fits : (bs out now_out : List ℕ) (res : Option ℕ) → ◌≡◌ {A = Option ℕ × List ℕ} (res, now_out) (written_to bs out) → length bs ≤ length out → Wrote bs out now_out (length bs)
wrote_fits bs out now_out res e l =
    let yes_way : Option ℕ × List ℕ = (Some (length bs), bs ++ drop (length bs) out) in
    let no_way : Option ℕ × List ℕ = (None, out) in
    let snd : Option ℕ × List ℕ → List ℕ = λ p. p.1 in
    record { size = refl; room = l; bytes = ap snd (e ∙ cond-true (leb (length bs) (length out)) yes_way no_way (le-leb (length bs) (length out) l)) }

-- a writer that wrote nothing
pub wrote_none : (bs out now_out : List ℕ) → ◌≡◌ {A = Option ℕ × List ℕ} (None, now_out) (written_to bs out) → length out < length bs
wrote_none bs out now_out e =
    let yes_way : Option ℕ × List ℕ = (Some (length bs), bs ++ drop (length bs) out) in
    let no_way : Option ℕ × List ℕ = (None, out) in
    let fst : Option ℕ × List ℕ → Option ℕ = λ p. p.0 in
    ⊎_elim
    (λ (t : leb (length bs) (length out) ≡ true). absurd (none_some (length bs) (sym (ap fst (e ∙ cond-true (leb (length bs) (length out)) yes_way no_way t)))))
    (λ (t : leb (length bs) (length out) ≡ false). leb-false (length bs) (length out) t)
    (cases_Bool (leb (length bs) (length out)))

-- two sizes that fit together or not at all
pub fit_alike : (a b c d : ℕ) → (a ≤ b → c ≤ d) → (c ≤ d → a ≤ b) → leb a b ≡ leb c d
fit_alike a b c d f g =
    ⊎_elim
    (λ (t : leb a b ≡ true). t ∙ sym (le-leb c d (f (leb-true a b t))))
    (λ (t : leb a b ≡ false). t ∙ sym (lt-leb c d (let l = leb-false a b t in ⊎_elim (λ (m : d < c). m) (λ (m : c ≤ d). let k = g m in absurd (omega arith)) (cases_lt d c))))
    (cases_Bool (leb a b))

-- what is left behind the first bytes
pub behind : (mine out out1 : List ℕ) (n : ℕ) → Wrote mine out out1 n → take (length out1 - n) (drop n out1) ≡ drop (length mine) out
behind mine out out1 n w =
    let e = w.bytes in
    let s = w.size in
    take_rest out1 n ∙ ap (drop n) e ∙ drop_at mine (drop (length mine) out) n (sym s)

pub as_long : (mine out out1 : List ℕ) (n : ℕ) → Wrote mine out out1 n → length out1 ≡ length out
as_long mine out out1 n w =
    let d = length-drop (length mine) out in
    let r = w.room in
    let q : length mine + length (drop (length mine) out) ≡ length out = omega arith in
    ap length w.bytes ∙ length-append mine (drop (length mine) out) ∙ q

-- a second writer behind the first
pub chain : (mine more out out1 part : List ℕ) (n m : ℕ) → Wrote mine out out1 n → Wrote more (take (length out1 - n) (drop n out1)) part m → Wrote (mine ++ more) out (put_mid n (length out1 - n) out1 part) (n + m)
chain mine more out out1 part n m v w =
    let r = behind mine out out1 n v in
    let sn = v.size in
    let sm = w.size in
    let ln = v.room in
    let lm : length more ≤ length out - length mine = omega (arith, w.room, ap length r, length-drop (length mine) out) in
    let whole = length-append mine more in
    let long = as_long mine out out1 n v in
    let ends : drop (length out1 - n) (drop n out1) ≡ [] = drop_all (length out1 - n) (drop n out1) (let d = length-drop n out1 in omega arith) in
    let front : take n out1 ≡ mine = ap (take n) v.bytes ∙ take_at mine (drop (length mine) out) n (sym sn) in
    let last : part ≡ more ++ drop (length mine + length more) out = w.bytes ∙ ap (λ (t : List ℕ). more ++ drop (length more) t) r ∙ ap (λ (t : List ℕ). more ++ t) (drop-drop (length more) (length mine) out) in
    record {
      size = omega arith;
      room = omega arith;
      bytes =
          ap (λ (t : List ℕ). take n out1 ++ (part ++ t)) ends
          ∙ ap (λ (t : List ℕ). take n out1 ++ t) (append-nil part)
          ∙ ap (λ (t : List ℕ). t ++ part) front
          ∙ ap (λ (t : List ℕ). mine ++ t) last
          ∙ sym (append_assoc mine more (drop (length mine + length more) out))
          ∙ ap (λ (k : ℕ). (mine ++ more) ++ drop k out) (sym whole);
    }

-- many things written one behind the other
module _ {A : Type 0} (f : A → List ℕ) where
  joined_append : (xs ys : List A) → joined f (xs ++ ys) ≡ joined f xs ++ joined f ys
  joined_append [] ys = refl
  joined_append (x ∷ xs) ys = ap (λ (t : List ℕ). f x ++ t) (joined_append xs ys) ∙ sym (append_assoc (f x) (joined f xs) (joined f ys))

  module _ (xs : List A) (i : ℕ) (d : A) (l : i < length xs) where
    -- one more in front
    pub front_more : joined f (take (i + 1) xs) ≡ joined f (take i xs) ++ f (get_or xs i d)
    front_more =
        ap (joined f) (take_more xs i d l)
        ∙ joined_append (take i xs) (get_or xs i d ∷ [])
        ∙ ap (λ (t : List ℕ). joined f (take i xs) ++ t) (append-nil (f (get_or xs i d)))

    pub front_length : length (joined f (take i xs)) + length (f (get_or xs i d)) ≤ length (joined f xs)
    front_length =
        let a = ap length front_more ∙ length-append (joined f (take i xs)) (f (get_or xs i d)) in
        let c = ap length (sym (joined_append (take (i + 1) xs) (drop (i + 1) xs)) ∙ ap (joined f) (take-append-drop (i + 1) xs)) in
        let e = length-append (joined f (take (i + 1) xs)) (joined f (drop (i + 1) xs)) in
        omega arith

    -- one more, x, that a writer was given behind those in front
    module _ (out out1 part : List ℕ) (at : ℕ) (v : Wrote (joined f (take i xs)) out out1 at) (x : A) (is : x ≡ get_or xs i d) (res : Option ℕ) (e : ◌≡◌ {A = Option ℕ × List ℕ} (res, part) (written_to (f x) (take (length out1 - at) (drop at out1)))) where
      answered : (r : Option ℕ) → res ≡ r → ◌≡◌ {A = Option ℕ × List ℕ} (r, part) (written_to (f (get_or xs i d)) (take (length out1 - at) (drop at out1)))
      answered r was = ap (λ (r : Option ℕ). (r, part)) (sym was) ∙ e ∙ ap (λ (x : A). written_to (f x) (take (length out1 - at) (drop at out1))) is

      pub next_none : length (joined f xs) ≤ length out → res ≡ None → ⊥
      next_none fits was =
          let more = f (get_or xs i d) in
          let room = take (length out1 - at) (drop at out1) in
          let short = wrote_none more room part (answered None was) in
          let a = front_length in
          let b = ap length (behind (joined f (take i xs)) out out1 at v) ∙ length-drop (length (joined f (take i xs))) out in
          omega arith

      pub next_some : (n : ℕ) → res ≡ Some n → Wrote (joined f (take (i + 1) xs)) out (put_mid at (length out1 - at) out1 part) (at + n)
      next_some n was =
          let more = f (get_or xs i d) in
          let room = take (length out1 - at) (drop at out1) in
          let P : List ℕ → Type 0 = λ bs. Wrote bs out (put_mid at (length out1 - at) out1 part) (at + n) in
          subst P (sym front_more) (chain (joined f (take i xs)) more out out1 part at n v (wrote more room part n (answered (Some n) was)))
