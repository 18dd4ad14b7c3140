use Rattle.std.proofs.Common.{◌≡◌, length, take, drop, Some, None, Ok, vec_len, Option, Result, refl, ap, ◌∙◌}
use Rattle.std.proofs.lemmas.List.{take_at}
use Rattle.std.specs.Option.{ok_or}
use Rattle.desk.proofs.saving.saved.Goals as goal

said_some : {A E : Type 0} (o : Option A) (e : E) (x : A) (r : Result A E) → r ≡ ok_or o e → r ≡ Ok x → o ≡ Some x
said_some None e x r p q = cc
said_some (Some y) e x r p q = cc

pub returns : goal.returns
returns g c =
    let v = c.in_ok-bytes.bytes in
    let after = c.save.new.arg2 in
    let n = c.in_ok-length.length in
    let long : length after ≡ vec_len v = c.save.auto.arg2 ∙ c.deref_mut.ensures.len in
    record {
      before = c.deref_mut.result.now;
      after = after;
      said = c.save.result;
      many = n;
      wrote = record { shown = c.deref_mut.result; shows = refl; left = _; met = c.save.ensures; leaves = refl };
      so = said_some c.save.result _ n c.ok_or.result c.ok_or.ensures.value c.in_ok-length.was;
      front = c.truncate.ensures.items ∙ ap (take n) (take_at after (drop (length after) v.items) (vec_len v) long);
    }
