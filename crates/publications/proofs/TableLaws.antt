-- Tables that were written are read back, and those that were read stand as they are written.
use Rattle.std.proofs.Common.{◌≡◌, ℕ, ◌+◌, ◌≤◌, true, List, [], ◌∷◌, ◌++◌, length, take, Ok, Result, sym, refl, ap, ◌∙◌, subst, arith}
use Rattle.std.proofs.lemmas.List.{append_assoc, append-nil, length-append}
use Rattle.std.proofs.lemmas.Bool.{lt-ltb, and_from}
use Rattle.refusals.specs.declared.Refusal.{Refusal}
use Rattle.passes.specs.Bytes.{bytes}
use Rattle.passes.specs.ByteLaws.{bytes_append}
use Rattle.fields.specs.Fields.{field}
use Rattle.fields.specs.Reading.{then}
use Rattle.fields.proofs.Readback.{length_field, field_bytes}
use Rattle.fields.proofs.Stands.{then_ok}
use Rattle.levels.specs.Deciders.{Table, next, tag_of, table_in, tables_at, table_fields}
use Rattle.levels.specs.Laws.{AllFit}
use Rattle.levels.specs.Fields.{table_back, table_stands}
use Rattle.publications.specs.Layout.{AcceptedTables}

-- the tables behind one
unfoldable with_table : List Table → ℕ → ℕ → List ℕ → ℕ → List ℕ → Result (List (List ℕ)) Refusal
with_table ts level hashes input at b = then (tables_at ts (next level) hashes input (at + 3 + length b)) (λ bs. Ok (b ∷ bs))

one_table : (t : Table) (ts : List Table) (level hashes : ℕ) (input : List ℕ) (at : ℕ) → tables_at (t ∷ ts) level hashes input at ≡ then (table_in t (tag_of level) hashes input at) (with_table ts level hashes input at)
unfolding tables_at with_table
one_table t ts level hashes input at = refl

pub tables_back : (ts : List Table) (bs : List (List ℕ)) (level hashes : ℕ) (front rest : List ℕ) → AcceptedTables ts hashes bs → tables_at ts level hashes (front ++ (table_fields level bs ++ rest)) (length front) ≡ Ok bs
unfolding tables_at with_table
tables_back [] [] level hashes front rest a = refl
tables_back [] (b ∷ bs) level hashes front rest a = absurd a
tables_back (t ∷ ts) [] level hashes front rest a = absurd a
tables_back (t ∷ ts) (b ∷ bs) level hashes front rest (a, more) =
    let tag = tag_of level in
    let low = table_fields (next level) bs in
    let mine = field tag b in
    let input = front ++ ((mine ++ low) ++ rest) in
    let one : input ≡ front ++ (mine ++ (low ++ rest)) = ap (λ (x : List ℕ). front ++ x) (append_assoc mine low rest) in
    let two : (front ++ mine) ++ (low ++ rest) ≡ input = append_assoc front mine (low ++ rest) ∙ sym one in
    let size : length (front ++ mine) ≡ length front + 3 + length b = length-append front mine ∙ (let n = length_field tag b in let q : length front + length mine ≡ length front + 3 + length b = omega arith in q) in
    let here : table_in t tag hashes input (length front) ≡ Ok b = ap (λ (x : List ℕ). table_in t tag hashes x (length front)) one ∙ table_back front b (low ++ rest) tag a.short t hashes a.measured a.well in
    let there : tables_at ts (next level) hashes input (length front + 3 + length b) ≡ Ok bs =
    ap (tables_at ts (next level) hashes input) (sym size) ∙ ap (λ (x : List ℕ). tables_at ts (next level) hashes x (length (front ++ mine))) (sym two) ∙ tables_back ts bs (next level) hashes (front ++ mine) rest more
    in
    one_table t ts level hashes input (length front)
    ∙ ap (λ (r : Result (List ℕ) Refusal). then r (with_table ts level hashes input (length front))) here
    ∙ ap (λ (r : Result (List (List ℕ)) Refusal). then r (λ cs. Ok (b ∷ cs))) there

-- tables that were read
pub record ReadTables (ts : List Table) (level hashes : ℕ) (input : List ℕ) (at : ℕ) (bs : List (List ℕ)) : Type 0 where
  pub accepted : AcceptedTables ts hashes bs
  pub inside : at ≤ length input → at + length (table_fields level bs) ≤ length input
  pub written : take (at + length (table_fields level bs)) input ≡ take at input ++ table_fields level bs

pub tables_stand : (ts : List Table) (level hashes : ℕ) (input : List ℕ) (at : ℕ) (bs : List (List ℕ)) → bytes input ≡ true → tables_at ts level hashes input at ≡ Ok bs → ReadTables ts level hashes input at bs
unfolding tables_at with_table
tables_stand [] level hashes input at bs real e =
    let q : ◌≡◌ {A = List (List ℕ)} [] bs = cc in
    let none : at + 0 ≡ at = omega arith in
    let P : List (List ℕ) → Type 0 = ReadTables [] level hashes input at in
    subst P q (record { accepted = tt; inside = λ l. omega arith; written = ap (λ (k : ℕ). take k input) none ∙ sym (append-nil (take at input)) })
tables_stand (t ∷ ts) level hashes input at bs real e =
    let tag = tag_of level in
    let w = then_ok (table_in t tag hashes input at) (with_table ts level hashes input at) bs (sym (one_table t ts level hashes input at) ∙ e) in
    let b = w.0 in
    let u = then_ok (tables_at ts (next level) hashes input (at + 3 + length b)) (λ cs. Ok (b ∷ cs)) bs w.2 in
    let cs = u.0 in
    let both = u.2 in
    let q : ◌≡◌ {A = List (List ℕ)} (b ∷ cs) bs = cc in
    let here = table_stands t tag hashes input at b real w.1 in
    let s = here.stands in
    let low = tables_stand ts (next level) hashes input (at + 3 + length b) cs real u.1 in
    let mine = field tag b in
    let rest = table_fields (next level) cs in
    let n = length_field tag b in
    let m = length-append mine rest in
    let total : at + length (mine ++ rest) ≡ at + 3 + length b + length rest = omega arith in
    let step : at + 3 + length b ≡ at + (3 + length b) = omega arith in
    let P : List (List ℕ) → Type 0 = ReadTables (t ∷ ts) level hashes input at in
    subst P q (record {
      accepted = (record { measured = here.measured; well = here.well; in_bytes = s.real; short = (let z = s.short in omega arith) }, low.accepted);
      inside = λ l. (let z = low.inside (let y = s.inside in omega arith) in omega arith);
      written =
          ap (λ (k : ℕ). take k input) total
          ∙ low.written
          ∙ ap (λ (k : ℕ). take k input ++ rest) step
          ∙ ap (λ (x : List ℕ). x ++ rest) s.written
          ∙ append_assoc (take at input) mine rest;
    })

tag_is_byte : (level : ℕ) → bytes (tag_of level ∷ []) ≡ true
tag_is_byte level = and_from _ _ (lt-ltb (tag_of level) 256 (omega arith)) refl

pub tables_are_bytes : (ts : List Table) (level hashes : ℕ) (bs : List (List ℕ)) → AcceptedTables ts hashes bs → bytes (table_fields level bs) ≡ true
tables_are_bytes [] level hashes [] a = refl
tables_are_bytes [] level hashes (b ∷ bs) a = absurd a
tables_are_bytes (t ∷ ts) level hashes [] a = absurd a
tables_are_bytes (t ∷ ts) level hashes (b ∷ bs) (a, more) = bytes_append (field (tag_of level) b) (table_fields (next level) bs) (field_bytes (tag_of level) b (tag_is_byte level) a.in_bytes) (tables_are_bytes ts (next level) hashes bs more)

-- tables that fit are accepted
pub fit_accepted : (ts : List Table) (hashes : ℕ) (sizes : List ℕ) (bs : List (List ℕ)) → AllFit ts hashes sizes bs → AcceptedTables ts hashes bs
fit_accepted [] hashes [] [] f = tt
fit_accepted [] hashes [] (b ∷ bs) f = absurd f
fit_accepted [] hashes (n ∷ ns) bs f = absurd f
fit_accepted (t ∷ ts) hashes [] bs f = absurd f
fit_accepted (t ∷ ts) hashes (n ∷ ns) [] f = absurd f
fit_accepted (t ∷ ts) hashes (n ∷ ns) (b ∷ bs) (f, more) = (record { measured = f.measured; well = f.accepted; in_bytes = f.in_bytes; short = (let a = f.short in let c = f.small in omega arith) }, fit_accepted ts hashes ns bs more)
