-- Reading a publication, step by step.
use Rattle.std.proofs.Common.{◌≡◌, ℕ, ◌+◌, false, eqb, List, [], length, Ok, Err, Result, ap, arith, MatchResult}
use Rattle.refusals.specs.declared.Refusal.{Refusal}
use Rattle.fields.specs.Reading.{check_at}
use Rattle.levels.specs.Deciders.{Table, table_in, tables_at, table_fields}
use Rattle.publications.specs.declared.PublicationHead.{PublicationHead}
use Rattle.publications.specs.Reading.{Makes, head_at, rows_in, unsaid, coverage_judge, known_tables, known_makes, reads}

-- what a decider's judgement says of its tables
abbrev pub TablesRead : List Table → ℕ → ℕ → List ℕ → ℕ → ℕ → Result (Unit {0}) Refusal → Type 0
TablesRead ts level hashes input at at2 r = MatchResult r (λ _. (bs : List (List ℕ)) × (tables_at ts level hashes input at ≡ Ok bs) × (at2 ≡ at + length (table_fields level bs))) (λ e. tables_at ts level hashes input at ≡ Err e)

-- a make that is not known has no table
pub make_none : (one two mine : List Table) (own make : ℕ) → eqb make own ≡ false → eqb make 1 ≡ false → eqb make 2 ≡ false → known_tables (known_makes one two mine own make) ≡ []
make_none one two mine own make e f g = rw (e, f, g)

-- no table is read of no make
pub none_read : (ts : List Table) (hashes : ℕ) (input : List ℕ) (at : ℕ) → ts ≡ [] → TablesRead ts 1 hashes input at at (Ok tt)
unfolding tables_at
none_read ts hashes input at e = let z : at ≡ at + 0 = omega arith in ([], ap (λ (xs : List Table). tables_at xs 1 hashes input at) e, z)

-- the fields one after the other
module _ (makes : Makes) (input : List ℕ) where
  pub stop_head : (e : Refusal) → head_at makes input 0 ≡ Err e → reads makes input ≡ Err e
  unfolding reads
  stop_head e p = rw p

  module _ (h : PublicationHead) (p : head_at makes input 0 ≡ Ok h) where
    pub stop_coverage : (e : Refusal) → table_in coverage_judge 0x02 h.hashes input 12 ≡ Err e → reads makes input ≡ Err e
    unfolding reads
    stop_coverage e q = rw (p, q)

    module _ (c : List ℕ) (q : table_in coverage_judge 0x02 h.hashes input 12 ≡ Ok c) where
      pub stop_tables : (e : Refusal) → tables_at (known_tables (makes h.make)) 1 h.hashes input (15 + length c) ≡ Err e → reads makes input ≡ Err e
      unfolding reads
      stop_tables e r = rw (p, q, r)

      module _ (ts : List (List ℕ)) (r : tables_at (known_tables (makes h.make)) 1 h.hashes input (15 + length c) ≡ Ok ts) where
        pub stop_check : (e : Refusal) → check_at input (15 + length c + length (table_fields 1 ts)) ≡ Err e → reads makes input ≡ Err e
        unfolding reads
        stop_check e s = rw (p, q, r, s)

        pub all_read : (u : Unit {0}) → check_at input (15 + length c + length (table_fields 1 ts)) ≡ Ok u → reads makes input ≡ Ok (record { head = h; coverage = unsaid (rows_in c); tables = ts })
        unfolding reads
        all_read u s = rw (p, q, r, s)
