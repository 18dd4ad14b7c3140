-- Reading the table of a level, step by step.
use Rattle.std.proofs.Common.{◌≡◌, ℕ, ◌+◌, true, false, cond, List, length, Some, None, Ok, Err, Option, Result, sym, refl, ap, ◌∙◌, ⊎_elim, arith}
use Rattle.std.proofs.lemmas.Bool.{cases_Bool, cond-true, cond-false}
use Rattle.refusals.specs.declared.Reason.{Reason}
use Rattle.refusals.specs.declared.Reason.TheVariants.{BadLength}
use Rattle.refusals.specs.declared.Refusal.{Refusal}
use Rattle.refusals.specs.Numbers.{refused}
use Rattle.filters.specs.declared.Hashing.{Hashing}
use Rattle.filters.specs.Kind.{Kind, judged}
use Rattle.filters.specs.Answers.{answered, unless, after_load}
use Rattle.fields.specs.declared.Header.{Header}
use Rattle.fields.specs.Fields.{header_at, body_at}
use Rattle.fields.specs.Reading.{then, in_field}
use Rattle.fields.proofs.Steps.{never, headed, bodied}
use Rattle.fields.proofs.Stands.{then_ok}
use Rattle.levels.specs.Deciders.{Decides, Over, Table, table_at, table_in, judged_as, judged_in, tag_of, deeper, level_decides, end_decides}

-- one reading: the header, the body behind it, and the judgement
module _ (t : Table) (tag hashes at : ℕ) (input : List ℕ) where
  unread : Header → Result (List ℕ) Refusal
  unread h = cond (t.measures h.len) (then (body_at input (at + 3) h) (λ b. judged_in tag at b (t.judged hashes b))) (Err (refused BadLength tag at))

  pub no_header : (e : Refusal) → header_at input at tag ≡ Err e → table_in t tag hashes input at ≡ Err e
  unfolding table_in
  no_header e p = rw p

  pub no_length : (h : Header) → header_at input at tag ≡ Ok h → t.measures h.len ≡ false → table_in t tag hashes input at ≡ Err (refused BadLength tag h.place)
  unfolding table_in
  no_length h p m = let q = (headed input at tag h p).place_is in rw (p, m, q)

  module _ (h : Header) (at1 : ℕ) (input1 : List ℕ) (p : header_at input at tag ≡ Ok h) (a : at1 ≡ at + 3) (i : input1 ≡ input) (m : t.measures h.len ≡ true) where
    moved : body_at input1 at1 h ≡ body_at input (at + 3) h
    moved = ap (λ (n : ℕ). body_at input1 n h) a ∙ ap (λ (t : List ℕ). body_at t (at + 3) h) i

    pub no_body : (e : Refusal) → body_at input1 at1 h ≡ Err e → table_in t tag hashes input at ≡ Err e
    unfolding table_in
    no_body e q = let r = sym moved ∙ q in rw (p, m, r)

    pub read_ok : (b : List ℕ) (at2 : ℕ) → body_at input1 at1 h ≡ Ok b → at2 ≡ at1 + h.len → t.judged hashes b ≡ None → (table_in t tag hashes input at ≡ Ok b) × (at2 ≡ at + 3 + length b)
    unfolding table_in
    read_ok b at2 q w j =
        let r = sym moved ∙ q in
        let n = (bodied input (at + 3) h b r).size in
        (rw (p, m, r, j), omega arith)

    pub read_err : (b : List ℕ) (r : Reason) → body_at input1 at1 h ≡ Ok b → t.judged hashes b ≡ Some r → table_in t tag hashes input at ≡ Err (refused r tag h.place)
    unfolding table_in
    read_err b r q j =
        let s = sym moved ∙ q in
        let o = (headed input at tag h p).place_is in
        rw (p, m, s, j, o)

  judged_of : (b body : List ℕ) (o : Option Reason) → o ≡ t.judged hashes b → judged_in tag at b o ≡ Ok body → t.judged hashes body ≡ None
  judged_of b body None q e = let s : b ≡ body = cc in ap (t.judged hashes) (sym s) ∙ sym q
  judged_of b body (Some r) q e = absurd (never (refused r tag at) body e)

  -- a table that was read has been judged
  pub read_judged : (body : List ℕ) → table_in t tag hashes input at ≡ Ok body → t.judged hashes body ≡ None
  unfolding table_in unread
  read_judged body e =
      let w = then_ok (header_at input at tag) unread body e in
      let h = w.0 in
      ⊎_elim
      (λ (m : t.measures h.len ≡ true).
      let u = then_ok (body_at input (at + 3) h) (λ b. judged_in tag at b (t.judged hashes b)) body (sym (cond-true (t.measures h.len) _ _ m) ∙ w.2) in
      judged_of u.0 body (t.judged hashes u.0) refl u.2)
      (λ (m : t.measures h.len ≡ false). absurd (never (refused BadLength tag at) body (sym (cond-false (t.measures h.len) _ _ m) ∙ w.2)))
      (cases_Bool (t.measures h.len))

-- a judgement, as the refusal of a field
module _ (tag place : ℕ) where
  ok_none : (o : Option Reason) (u : Unit {0}) → in_field tag place (judged_as o) ≡ Ok u → o ≡ None
  ok_none None u e = refl
  ok_none (Some r) u e = absurd (never (refused r tag place) u e)

  err_some : (o : Option Reason) (f : Refusal) → in_field tag place (judged_as o) ≡ Err f → (r : Reason) × (o ≡ Some r) × (f ≡ refused r tag place)
  err_some None f e = absurd (never f tt (sym e))
  err_some (Some r) f e = let q : f ≡ refused r tag place = cc in (r, refl, q)

  module _ (o : Option Reason) (x : Result (Unit {0}) Reason) (y : Result (Unit {0}) Refusal) (q : x ≡ judged_as o) (p : y ≡ in_field tag place x) where
    pub judged_ok : (u : Unit {0}) → y ≡ Ok u → o ≡ None
    judged_ok u e = ok_none o u (ap (in_field tag place) (sym q) ∙ sym p ∙ e)

    pub judged_err : (f : Refusal) → y ≡ Err f → (r : Reason) × (o ≡ Some r) × (f ≡ refused r tag place)
    judged_err f e = err_some o f (ap (in_field tag place) (sym q) ∙ sym p ∙ e)

-- a load of bytes that were judged
pub load_done : {V : Type 0} (k : Kind V) (v w : V) (h : Hashing) (body : List ℕ) (res : Result (Unit {0}) Refusal) → (res, w) ≡ after_load k v h body → judged k h.hashes body ≡ None → (res ≡ Ok tt) × (w ≡ k.loaded h body)
load_done {V} k v w h body res e j =
    let fst : Result (Unit {0}) Refusal × V → Result (Unit {0}) Refusal = λ p. p.0 in
    let snd : Result (Unit {0}) Refusal × V → V = λ p. p.1 in
    (ap fst e ∙ ap answered j, ap snd e ∙ ap (λ (o : Option Reason). unless o (k.loaded h body) v) j)

pub end_loads : {V : Type 0} (k : Kind V) (h : Hashing) (tag at at2 : ℕ) (input body : List ℕ) → tag ≡ tag_of h.level → table_at k tag h.hashes input at ≡ Ok body → at2 ≡ at + 3 + length body → (end_decides k).loads h input at ≡ Ok (k.loaded h body, at2)
end_loads k h tag at at2 input body t e p =
    ap (λ (r : Result (List ℕ) Refusal). then r (λ b. Ok (k.loaded h b, at + 3 + length b))) (ap (λ (n : ℕ). table_at k n h.hashes input at) (sym t) ∙ e)
    ∙ ap (λ (n : ℕ). Ok (k.loaded h body, n)) (sym p)

module _ {V S : Type 0} (k : Kind V) (d : Decides S) (h : Hashing) (tag at at2 : ℕ) (input input2 body : List ℕ) (t : tag ≡ tag_of h.level) (e : table_at k tag h.hashes input at ≡ Ok body) (p : at2 ≡ at + 3 + length body) (i : input2 ≡ input) where
  below : List ℕ → Result (Over V S × ℕ) Refusal
  below b = then (d.loads (deeper h) input (at + 3 + length b)) (λ q. Ok (record { filter = k.loaded h b; below = q.0 }, q.1))

  begins : (level_decides k d).loads h input at ≡ then (d.loads (deeper h) input2 at2) (λ q. Ok (record { filter = k.loaded h body; below = q.0 }, q.1))
  unfolding below
  begins =
      ap (λ (r : Result (List ℕ) Refusal). then r below) (ap (λ (n : ℕ). table_at k n h.hashes input at) (sym t) ∙ e)
      ∙ ap (λ (n : ℕ). then (d.loads (deeper h) input n) (λ q. Ok (record { filter = k.loaded h body; below = q.0 }, q.1))) (sym p)
      ∙ ap (λ (b : List ℕ). then (d.loads (deeper h) b at2) (λ q. Ok (record { filter = k.loaded h body; below = q.0 }, q.1))) (sym i)

  pub level_loads : (s : S) (at3 : ℕ) → d.loads (deeper h) input2 at2 ≡ Ok (s, at3) → (level_decides k d).loads h input at ≡ Ok (record { filter = k.loaded h body; below = s }, at3)
  level_loads s at3 q = begins ∙ ap (λ (r : Result (S × ℕ) Refusal). then r (λ q. Ok (record { filter = k.loaded h body; below = q.0 }, q.1))) q

  pub level_refuses : (f : Refusal) → d.loads (deeper h) input2 at2 ≡ Err f → (level_decides k d).loads h input at ≡ Err f
  level_refuses f q = begins ∙ ap (λ (r : Result (S × ℕ) Refusal). then r (λ q. Ok (record { filter = k.loaded h body; below = q.0 }, q.1))) q
