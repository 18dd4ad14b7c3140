-- What it takes for bytes to be accepted by load.
use Rattle.std.specs.Prelude.{◌≡◌, ℕ, true, false, cond, List, length, Some, None, Ok, Option, Result, ◌≢◌, refl}
use Rattle.std.proofs.Common.{sym, ap, ◌∙◌, ⊎_elim}
use Rattle.std.proofs.lemmas.Bool.{cases_Bool, cond-true, cond-false}
use Rattle.refusals.specs.declared.Reason.{Reason}
use Rattle.refusals.specs.declared.Reason.TheVariants.{BadLength, BadSetting}
use Rattle.refusals.specs.declared.Refusal.{Refusal}
use Rattle.filters.specs.declared.Hashing.{Hashing}
use Rattle.filters.specs.Answers.{answered, unless, after_load}
use Rattle.filters.specs.Kind.{Kind, hashes_allowed, content_reason, judged}

module _ {V : Type 0} (k : Kind V) (hashes : ℕ) (body : List ℕ) where
  pub record Fitting : Type 0 where
    pub counted : hashes_allowed hashes ≡ true
    pub measured : k.measures (length body) ≡ true
    pub well : content_reason (k.judges body) ≡ None

  some_none : (r : Reason) → Some r ≢ None
  some_none r e = cc

  pub fitting : judged k hashes body ≡ None → Fitting
  fitting e =
      let inner = cond (k.measures (length body)) (content_reason (k.judges body)) (Some BadLength) in
      ⊎_elim
      (λ (a : hashes_allowed hashes ≡ true).
      let f : inner ≡ None = sym (cond-true (hashes_allowed hashes) inner (Some BadSetting) a) ∙ e in
      ⊎_elim
      (λ (b : k.measures (length body) ≡ true). record { counted = a; measured = b; well = sym (cond-true (k.measures (length body)) (content_reason (k.judges body)) (Some BadLength) b) ∙ f })
      (λ (b : k.measures (length body) ≡ false). absurd (some_none BadLength (sym (cond-false (k.measures (length body)) (content_reason (k.judges body)) (Some BadLength) b) ∙ f)))
      (cases_Bool (k.measures (length body))))
      (λ (a : hashes_allowed hashes ≡ false). absurd (some_none BadSetting (sym (cond-false (hashes_allowed hashes) inner (Some BadSetting) a) ∙ e)))
      (cases_Bool (hashes_allowed hashes))

  pub accepted_from : Fitting → judged k hashes body ≡ None
  accepted_from f = cond-true (hashes_allowed hashes) _ (Some BadSetting) f.counted ∙ cond-true (k.measures (length body)) _ (Some BadLength) f.measured ∙ f.well

-- an accepted judgement has no reason
pub ok_none : (o : Option Reason) (u : Unit {0}) → Ok u ≡ answered o → o ≡ None
ok_none None u e = refl
ok_none (Some r) u e = cc

-- what load leaves when the bytes are accepted
pub after_accepted : {V : Type 0} (k : Kind V) (v : V) (h : Hashing) (body : List ℕ) → judged k h.hashes body ≡ None → (Ok tt, k.loaded h body) ≡ after_load k v h body
after_accepted {V} k v h body e =
    let done : Option Reason → Result (Unit {0}) Refusal × V = λ o. (answered o, unless o (k.loaded h body) v) in
    ap done (sym e)
