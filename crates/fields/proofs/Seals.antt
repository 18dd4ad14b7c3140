-- The check written behind the bytes of an output.
use Rattle.std.proofs.Common.{◌≡◌, ℕ, ◌+◌, ◌-◌, ◌≤◌, leb, List, ◌++◌, length, take, drop, Some, None, Option, sym, ap, ◌∙◌, arith}
use borrow.Rule.Slice.PartMut.{put_mid}
use Rattle.std.proofs.lemmas.List.{append_assoc, drop-drop}
use Rattle.std.proofs.lemmas.Bool.{cond-true, le-leb}
use Rattle.murmur.specs.Hash.{murmur}
use Rattle.fields.specs.Fields.{field}
use Rattle.fields.specs.Reading.{be4, check_field}
use Rattle.fields.specs.Sealing.{sealed}

pub seals : (end check : ℕ) (out part : List ℕ) → end + 7 ≤ length out → check ≡ murmur 0 (take end out) → part ≡ field 0xFF (be4 check) → ◌≡◌ {A = Option ℕ × List ℕ} (Some (end + 7), put_mid end (end + 7 - end) out part) (sealed end out)
unfolding check_field
seals end check out part l h e =
    let front = take end out in
    let yes_way : Option ℕ × List ℕ = (Some (end + 7), (front ++ field 0xFF (be4 (murmur 0 front))) ++ drop (end + 7) out) in
    let no_way : Option ℕ × List ℕ = (None, out) in
    let seven : end + 7 - end ≡ 7 = omega arith in
    let rest : drop (end + 7 - end) (drop end out) ≡ drop (end + 7) out = ap (λ (n : ℕ). drop n (drop end out)) seven ∙ drop-drop 7 end out in
    let body : part ≡ field 0xFF (be4 (murmur 0 front)) = e ∙ ap (λ (n : ℕ). field 0xFF (be4 n)) h in
    ap (λ (t : List ℕ). (Some (end + 7), t))
    (ap (λ (t : List ℕ). front ++ (part ++ t)) rest
    ∙ ap (λ (t : List ℕ). front ++ (t ++ drop (end + 7) out)) body
    ∙ sym (append_assoc front (field 0xFF (be4 (murmur 0 front))) (drop (end + 7) out)))
    ∙ sym (cond-true (leb (end + 7) (length out)) yes_way no_way (le-leb (end + 7) (length out) l))
