-- The field of a table: what was written is read back, wherever it stands in an input, and what was read stands there as it is written.
use Rattle.std.specs.Prelude.{◌≡◌, ℕ, ◌+◌, ◌<◌, true, false, cond, List, ◌++◌, length, Some, None, Ok, Err, Option, Result}
use Rattle.std.proofs.Math.Path.{refl, ap}
use Rattle.std.proofs.Common.{sym, ◌∙◌, arith}
use Rattle.std.proofs.Math.Logic.{⊎_elim}
use Rattle.std.proofs.lemmas.Bool.{cases_Bool, cond-true, cond-false}
use Rattle.refusals.specs.declared.Reason.{Reason}
use Rattle.refusals.specs.declared.Reason.TheVariants.{BadLength}
use Rattle.refusals.specs.declared.Refusal.{Refusal}
use Rattle.refusals.specs.Numbers.{refused}
use Rattle.passes.specs.Bytes.{bytes}
use Rattle.passes.specs.ByteLaws.{bytes_at}
use Rattle.filters.specs.Kind.{Kind, judged}
use Rattle.filters.specs.Judged.{fitting}
use Rattle.fields.specs.declared.Header.{Header}
use Rattle.fields.specs.Fields.{field, header_at, body_at}
use Rattle.fields.specs.Reading.{then}
use Rattle.fields.proofs.Steps.{never, headed, bodied}
use Rattle.fields.proofs.Readback.{header_back, body_back}
use Rattle.fields.proofs.Stands.{then_ok, Stands, stands_from}
use Rattle.levels.specs.Deciders.{Table, table_of, table_at, table_in, judged_in}

module _ (front body rest : List ℕ) (tag : ℕ) (short : length body < 65536) where
  pub table_back : (t : Table) (hashes : ℕ) → t.measures (length body) ≡ true → t.judged hashes body ≡ None → table_in t tag hashes (front ++ (field tag body ++ rest)) (length front) ≡ Ok body
  unfolding table_in
  table_back t hashes m e =
      let bytes = front ++ (field tag body ++ rest) in
      let at = length front in
      let go : Header → Result (List ℕ) Refusal = λ h. cond (t.measures h.len) (then (body_at bytes (at + 3) h) (λ b. judged_in tag at b (t.judged hashes b))) (Err (refused BadLength tag at)) in
      ap (λ (r : Result Header Refusal). then r go) (header_back front body rest tag short)
      ∙ cond-true (t.measures (length body)) _ _ m
      ∙ ap (λ (r : Result (List ℕ) Refusal). then r (λ b. judged_in tag at b (t.judged hashes b))) (body_back front body rest tag)
      ∙ ap (judged_in tag at body) e

  pub table_read : {V : Type 0} (k : Kind V) (hashes : ℕ) → judged k hashes body ≡ None → table_at k tag hashes (front ++ (field tag body ++ rest)) (length front) ≡ Ok body
  table_read k hashes e = table_back (table_of k) hashes (fitting k hashes body e).measured e

-- a table that was read
pub record ReadTable (t : Table) (tag hashes : ℕ) (input : List ℕ) (at : ℕ) (b : List ℕ) : Type 0 where
  pub measured : t.measures (length b) ≡ true
  pub well : t.judged hashes b ≡ None
  pub stands : Stands tag 0 65535 input at b

module _ (t : Table) (tag hashes : ℕ) (input : List ℕ) (at : ℕ) (b : List ℕ) (real : bytes input ≡ true) where
  judged_is : (c : List ℕ) (o : Option Reason) → o ≡ t.judged hashes c → judged_in tag at c o ≡ Ok b → (c ≡ b) × (t.judged hashes b ≡ None)
  judged_is c None q e = let s : c ≡ b = cc in (s, ap (t.judged hashes) (sym s) ∙ sym q)
  judged_is c (Some r) q e = absurd (never (refused r tag at) b e)

  pub table_stands : table_in t tag hashes input at ≡ Ok b → ReadTable t tag hashes input at b
  unfolding table_in
  table_stands e =
      let go : Header → Result (List ℕ) Refusal = λ h. cond (t.measures h.len) (then (body_at input (at + 3) h) (λ c. judged_in tag at c (t.judged hashes c))) (Err (refused BadLength tag at)) in
      let w = then_ok (header_at input at tag) go b e in
      let h = w.0 in
      ⊎_elim
      (λ (m : t.measures h.len ≡ true).
      let u = then_ok (body_at input (at + 3) h) (λ c. judged_in tag at c (t.judged hashes c)) b (sym (cond-true (t.measures h.len) _ _ m) ∙ w.2) in
      let j = judged_is u.0 (t.judged hashes u.0) refl u.2 in
      let found : body_at input (at + 3) h ≡ Ok b = u.1 ∙ ap Ok j.0 in
      let p = headed input at tag h w.1 in
      let q = bodied input (at + 3) h b found in
      let b1 = bytes_at input (at + 1) real in
      let b2 = bytes_at input (at + 2) real in
      let n = p.len_is in
      record { measured = ap t.measures q.size ∙ m; well = j.1; stands = stands_from tag 0 65535 input at b real h p q (omega arith) (omega arith) })
      (λ (m : t.measures h.len ≡ false). absurd (never (refused BadLength tag at) b (sym (cond-false (t.measures h.len) _ _ m) ∙ w.2)))
      (cases_Bool (t.measures h.len))
