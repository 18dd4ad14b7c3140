-- What a decider saves and loads, table by table.
use Rattle.std.specs.Prelude.{◌≡◌, ℕ, ◌+◌, List, [], ◌∷◌, ◌++◌, length, Ok, Err, Result}
use Rattle.std.proofs.Math.Path.{refl, ap}
use Rattle.std.proofs.Common.{sym, ◌∙◌}
use native.Mathlib.Omega.{arith}
use Rattle.std.proofs.lemmas.List.{length-append, append-nil}
use Rattle.refusals.specs.declared.Refusal.{Refusal}
use Rattle.filters.specs.declared.Hashing.{Hashing}
use Rattle.filters.specs.Kind.{Kind}
use Rattle.fields.specs.Fields.{field}
use Rattle.fields.specs.Reading.{then}
use Rattle.levels.specs.Deciders.{Decides, Saves, Over, next, tag_of, table_of, table_in, tables_at, table_fields, deeper, level_decides, level_saves, end_decides, end_saves}
use Rattle.fields.proofs.Readback.{length_field}

-- the state that tables restore, and the place behind their fields
abbrev pub restored : {S : Type 0} → Saves S → Hashing → ℕ → List (List ℕ) → Result (S × ℕ) Refusal
restored saves h at bs = Ok (saves.restore h bs, at + length (table_fields h.level bs))

module _ {V : Type 0} (k : Kind V) where
  -- one table, read
  end_read : (h : Hashing) (at : ℕ) (t : Result (List ℕ) Refusal) → then {B = V × ℕ} t (λ b. Ok (k.loaded h b, at + 3 + length b)) ≡ then (then t (λ b. Ok (b ∷ []))) (restored (end_saves k) h at)
  end_read h at (Err e) = refl
  end_read h at (Ok b) =
      let n = length_field (tag_of h.level) b in
      let m = length-append (field (tag_of h.level) b) [] in
      let q : at + 3 + length b ≡ at + length (field (tag_of h.level) b ++ []) = omega arith in
      ap (λ (p : ℕ). Ok (k.loaded h b, p)) q

  pub end_from_fields : (h : Hashing) (input : List ℕ) (at : ℕ) → (end_decides k).loads h input at ≡ then (tables_at (end_saves k).tables h.level h.hashes input at) (restored (end_saves k) h at)
  unfolding tables_at
  end_from_fields h input at = end_read h at (table_in (table_of k) (tag_of h.level) h.hashes input at)

  pub end_as_fields : (level : ℕ) (v : V) → (end_decides k).saved level v ≡ table_fields level ((end_saves k).bodies v)
  end_as_fields level v = sym (append-nil (field (tag_of level) (k.saved v)))

  module _ {S : Type 0} (d : Decides S) (low : Saves S) (h : Hashing) (input : List ℕ) (at : ℕ) where
    -- a level over what was loaded below
    over : List ℕ → Result (S × ℕ) Refusal → Result (Over V S × ℕ) Refusal
    over b t = then t (λ p. Ok (record { filter = k.loaded h b; below = p.0 }, p.1))

    -- the tables below one that was read
    rest_read : (b : List ℕ) (u : Result (List (List ℕ)) Refusal) → over b (then u (restored low (deeper h) (at + 3 + length b))) ≡ then (then u (λ bs. Ok (b ∷ bs))) (restored (level_saves k low) h at)
    unfolding over
    rest_read b (Err e) = refl
    rest_read b (Ok bs) =
        let more = table_fields (next h.level) bs in
        let n = length_field (tag_of h.level) b in
        let m = length-append (field (tag_of h.level) b) more in
        let q : at + 3 + length b + length more ≡ at + length (field (tag_of h.level) b ++ more) = omega arith in
        ap (λ (p : ℕ). Ok (record { filter = k.loaded h b; below = low.restore (deeper h) bs }, p)) q

    -- what is loaded below is read table by table
    abbrev pub Below : Type 0
    Below = (p : ℕ) → d.loads (deeper h) input p ≡ then (tables_at low.tables (next h.level) h.hashes input p) (restored low (deeper h) p)

    level_read : Below → (t : Result (List ℕ) Refusal) → then t (λ b. over b (d.loads (deeper h) input (at + 3 + length b))) ≡ then (then t (λ b. then (tables_at low.tables (next h.level) h.hashes input (at + 3 + length b)) (λ bs. Ok (b ∷ bs)))) (restored (level_saves k low) h at)
    level_read below (Err e) = refl
    level_read below (Ok b) = ap (over b) (below (at + 3 + length b)) ∙ rest_read b (tables_at low.tables (next h.level) h.hashes input (at + 3 + length b))

    pub level_from_fields : Below → (level_decides k d).loads h input at ≡ then (tables_at (level_saves k low).tables h.level h.hashes input at) (restored (level_saves k low) h at)
    unfolding tables_at over
    level_from_fields below = level_read below (table_in (table_of k) (tag_of h.level) h.hashes input at)
