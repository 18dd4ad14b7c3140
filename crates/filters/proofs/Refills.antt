-- A table refilled with bytes that are accepted.
use Rattle.std.proofs.Common.{◌≡◌, ℕ, ◌≤◌, List, length, take, None, ap}
use Rattle.std.proofs.lemmas.List.{take_all}
use Rattle.filters.specs.declared.Hashing.{Hashing}
use Rattle.filters.specs.Kind.{Rules, judged}
use Rattle.filters.specs.TableRules.{load_allowed}
use Rattle.filters.specs.Tables.{Scheme, refilled, table_kind}

-- accepted bytes fit the table as a whole
pub whole_body : (k : Scheme) → Rules (table_kind k) → (h : Hashing) (body : List ℕ) → judged (table_kind k) h.hashes body ≡ None → refilled h (take 2048 body) ≡ refilled h body
whole_body k rules h body e =
    let short : length body ≤ 2048 = (rules.within (length body) h.hashes (load_allowed k h.hashes body e)).0 in
    ap (refilled h) (take_all 2048 body short)
