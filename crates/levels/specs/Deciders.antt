-- What a decider means; the level over any decider, and the end.
use Rattle.std.specs.Prelude.{ℕ, ◌+◌, min, Bool, cond, List, [], ◌∷◌, ◌++◌, map, length, Some, None, Ok, Err, Option, Result, ◌==◌}
use Rattle.refusals.specs.declared.Reason.{Reason}
use Rattle.refusals.specs.declared.Reason.TheVariants.{BadLength, BadSetting, NotTaken}
use Rattle.refusals.specs.declared.Refusal.{Refusal}
use Rattle.refusals.specs.Numbers.{refused, plain}
use Rattle.filters.specs.declared.Hashing.{Hashing}
use Rattle.filters.specs.declared.Settings.{Settings}
use Rattle.filters.specs.Kind.{Kind, allowed, judged}
use Rattle.fields.specs.Fields.{field, header_at, body_at}
use Rattle.fields.specs.Reading.{then}
use Rattle.levels.specs.declared.Side.{Side}
use Rattle.levels.specs.declared.Side.TheVariants.{For, Against}
use Rattle.levels.specs.Rows.{Row}

-- the side of an identifier and the source of the decision: the first level whose filter says no,
-- counted from the top, or one past the last
abbrev pub Answer : Type 0
Answer = Side × ℕ

-- one level further down; 255 counts for all that lie deeper
abbrev pub next : ℕ → ℕ
next n = min (n + 1) 255

-- the tag of a level's field
abbrev pub tag_of : ℕ → ℕ
tag_of level = min (level + 16) 255

-- How a level judges a table that it is to take over: which lengths fit, and why bytes of such a length are not accepted under a hash count.
pub record Table : Type 0 where
  pub measures : ℕ → Bool
  pub judged : ℕ → List ℕ → Option Reason

-- tables judged as a kind of filter judges them
abbrev pub table_of : {V : Type 0} → Kind V → Table
table_of k = record { measures = k.measures; judged = judged k }

-- what a judge answers, given the reason not to accept, if there is one
abbrev pub judged_as : Option Reason → Result (Unit {0}) Reason
judged_as None = Ok tt
judged_as (Some r) = Err r

abbrev pub judged_in : ℕ → ℕ → List ℕ → Option Reason → Result (List ℕ) Refusal
judged_in tag at body None = Ok body
judged_in tag at body (Some r) = Err (refused r tag at)

-- the body of the field of a table, judged
unfoldable pub table_in : Table → ℕ → ℕ → List ℕ → ℕ → Result (List ℕ) Refusal
table_in t tag hashes input at =
    then (header_at input at tag) (λ h.
    cond (t.measures h.len)
    (then (body_at input (at + 3) h) (λ body. judged_in tag at body (t.judged hashes body)))
    (Err (refused BadLength tag at)))

-- the bodies of the fields of tables that stand one behind the other, the first at this level
unfoldable pub tables_at : List Table → ℕ → ℕ → List ℕ → ℕ → Result (List (List ℕ)) Refusal
tables_at [] level hashes input at = Ok []
tables_at (t ∷ ts) level hashes input at = then (table_in t (tag_of level) hashes input at) (λ b. then (tables_at ts (next level) hashes input (at + 3 + length b)) (λ bs. Ok (b ∷ bs)))

-- the fields of tables, the first at this level
abbrev pub table_fields : ℕ → List (List ℕ) → List ℕ
table_fields level [] = []
table_fields level (b ∷ bs) = field (tag_of level) b ++ table_fields (next level) bs

-- A decider whose states are seen as values of S, without their memory layout.
pub record Decides (S : Type 0) : Type 0 where
  -- before any build or load
  pub blank : S
  pub decides : S → List ℕ → Answer
  -- what the filter of each level says, from the top down
  pub answers : S → List ℕ → List Bool
  -- built at a salt, level and hash count, with a table size for each level
  pub build : Hashing → List ℕ → List Row → Result S Refusal
  -- the fields that it saves, its own level having this number
  pub saved : ℕ → S → List ℕ
  -- read from an input at a place; and the place behind
  pub loads : Hashing → List ℕ → ℕ → Result (S × ℕ) Refusal

-- What the levels of a decider save: a table each.
pub record Saves (S : Type 0) : Type 0 where
  -- how each level judges its table, from the top down
  pub tables : List Table
  -- the table that each level saves
  pub bodies : S → List (List ℕ)
  -- the state that these tables restore
  pub restore : Hashing → List (List ℕ) → S

abbrev pub deeper : Hashing → Hashing
deeper h = record { salt = h.salt; level = next h.level; hashes = h.hashes }

abbrev pub at_size : Hashing → ℕ → Settings
at_size h size = record { hashing = h; size = size }

abbrev pub other : Side → Side
other For = Against
other Against = For

abbrev pub turned : Answer → Answer
turned a = (other a.0, next a.1)

module _ {V : Type 0} (k : Kind V) where
  -- puts every "for" in list order; an error is the index of the first not taken
  unfoldable pub fill : V → ℕ → List Row → Result V ℕ
  fill v i [] = Ok v
  fill v i (r ∷ rs) = cond (r.mark == 1) (cond (k.takes v r.form) (fill (k.put v r.form) (i + 1) rs) (Err i)) (fill v (i + 1) rs)

  -- below, the former "for" are against, and the "against" that the filter says yes to are for
  abbrev pub remark : V → Row → ℕ
  remark v r = cond (r.mark == 1) 2 (cond (r.mark == 2) (cond (k.says v r.form) 1 0) 0)

  abbrev pub turn : V → Row → Row
  turn v r = record { form = r.form; mark = remark v r }

  abbrev pub placed : ℕ → Result V ℕ → Result V Refusal
  placed level (Ok v) = Ok v
  placed level (Err i) = Err (refused NotTaken level i)

  -- a filter cleared and filled
  abbrev pub begun : Settings → List Row → Result V Refusal
  begun s rs = cond (allowed k s) (placed s.hashing.level (fill (k.cleared s) 0 rs)) (Err (plain BadSetting))

  -- the body of a level's field, judged by the filter of that level
  abbrev pub table_at : ℕ → ℕ → List ℕ → ℕ → Result (List ℕ) Refusal
  table_at tag hashes input at = table_in (table_of k) tag hashes input at

-- a filter over a decider
pub record Over (V S : Type 0) : Type 0 where
  pub filter : V
  pub below : S

abbrev pub level_decides : {V S : Type 0} → Kind V → Decides S → Decides (Over V S)
level_decides k d = record {
  blank = record { filter = k.blank; below = d.blank };
  decides = λ s x. cond (k.says s.filter x) (turned (d.decides s.below x)) (Against, 1);
  answers = λ s x. k.says s.filter x ∷ d.answers s.below x;
  build = λ h sizes rs. elim sizes [ [] ↦ Err (plain BadSetting) | size ∷ rest ↦ then (begun k (at_size h size) rs) (λ v. then (d.build (deeper h) rest (map (turn k v) rs)) (λ s. Ok (record { filter = v; below = s }))) ];
  saved = λ l s. field (tag_of l) (k.saved s.filter) ++ d.saved (next l) s.below;
  loads = λ h input at. then (table_at k (tag_of h.level) h.hashes input at) (λ body. then (d.loads (deeper h) input (at + 3 + length body)) (λ p. Ok (record { filter = k.loaded h body; below = p.0 }, p.1)));
}

abbrev pub level_saves : {V S : Type 0} → Kind V → Saves S → Saves (Over V S)
level_saves k low = record {
  tables = table_of k ∷ low.tables;
  bodies = λ s. k.saved s.filter ∷ low.bodies s.below;
  restore = λ h bs. elim bs [ [] ↦ record { filter = k.blank; below = low.restore (deeper h) [] } | b ∷ rest ↦ record { filter = k.loaded h b; below = low.restore (deeper h) rest } ];
}

-- The end: an exact filter that holds every "for". Its table has 1,536 bytes.
abbrev pub end_decides : {V : Type 0} → Kind V → Decides V
end_decides k = record {
  blank = k.blank;
  decides = λ v x. cond (k.says v x) (For, 2) (Against, 1);
  answers = λ v x. k.says v x ∷ [];
  build = λ h sizes rs. elim sizes [ [] ↦ begun k (at_size h 1536) rs | size ∷ rest ↦ Err (plain BadSetting) ];
  saved = λ l v. field (tag_of l) (k.saved v);
  loads = λ h input at. then (table_at k (tag_of h.level) h.hashes input at) (λ body. Ok (k.loaded h body, at + 3 + length body));
}

abbrev pub end_saves : {V : Type 0} → Kind V → Saves V
end_saves k = record {
  tables = table_of k ∷ [];
  bodies = λ v. k.saved v ∷ [];
  restore = λ h bs. elim bs [ [] ↦ k.blank | b ∷ rest ↦ k.loaded h b ];
}
