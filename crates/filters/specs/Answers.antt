-- What a filter's calls answer and leave, by its kind.
use Rattle.std.specs.Prelude.{ℕ, Bool, cond, List, Some, None, Ok, Err, Option, Result}
use Rattle.refusals.specs.declared.Reason.{Reason}
use Rattle.refusals.specs.declared.Reason.TheVariants.{BadSetting}
use Rattle.refusals.specs.declared.Refusal.{Refusal}
use Rattle.refusals.specs.Numbers.{plain}
use Rattle.filters.specs.declared.Hashing.{Hashing}
use Rattle.filters.specs.declared.Settings.{Settings}
use Rattle.filters.specs.Kind.{Kind, allowed, judged}

-- accepted, or refused for the reason given
abbrev pub answered : Option Reason → Result (Unit {0}) Refusal
answered None = Ok tt
answered (Some r) = Err (plain r)

abbrev pub after_clear : {V : Type 0} → Kind V → V → Settings → Result (Unit {0}) Refusal × V
after_clear k v s = cond (allowed k s) (Ok tt, k.cleared s) (Err (plain BadSetting), v)

abbrev pub after_put : {V : Type 0} → Kind V → V → List ℕ → Bool × V
after_put k v x = (k.takes v x, cond (k.takes v x) (k.put v x) v)

abbrev pub unless : {V : Type 0} → Option Reason → V → V → V
unless None new old = new
unless (Some r) new old = old

abbrev pub after_load : {V : Type 0} → Kind V → V → Hashing → List ℕ → Result (Unit {0}) Refusal × V
after_load k v h body = (answered (judged k h.hashes body), unless (judged k h.hashes body) (k.loaded h body) v)
