-- Fields written one behind the other.
use Rattle.std.proofs.Common.{◌≡◌, ℕ, ◌+◌, List, ◌++◌, length, ap, ◌∙◌}
use Rattle.std.proofs.lemmas.List.{length-append}
use Rattle.fields.specs.Fields.{field}
use Rattle.fields.proofs.Readback.{length_field}

pub length_both : (tag : ℕ) (b c : List ℕ) → length (field tag b ++ c) ≡ 3 + length b + length c
length_both tag b c = length-append (field tag b) c ∙ ap (λ (n : ℕ). n + length c) (length_field tag b)
