-- The exact list keeps the rules of a filter, and put adds one identifier alone.
use Rattle.std.specs.Prelude.{◌≡◌, ℕ, ◌<◌, ◌≤◌, true, false, ◌&&◌, ◌||◌, List, [], length, None, ◌==◌, ◌≢◌, nat_le, nat_lt, refl}
use Rattle.std.proofs.Common.{sym, ap, ◌∙◌, ⊎_elim, arith}
use Rattle.std.proofs.lemmas.Slice.Eq.{bytes_eq-Decides}
use Rattle.std.proofs.lemmas.Bool.{and_parts, and_from, cases_Bool, cond-true, cond-false, or_cases, both_ways, leb-true, le-leb, ltb-true, eqb-true}
use Rattle.passes.specs.Lawful.{Lawful}
use Rattle.passes.proofs.Shapes.{decides_lawful}
use Rattle.filters.specs.declared.Hashing.{Hashing}
use Rattle.filters.specs.Kind.{Rules, Alone, Content, fine, misvalued, unsorted, content_reason, hashes_allowed, judged}
use Rattle.filters.specs.Judged.{fitting, accepted_from}
use Rattle.exact.specs.Rows.{pack, forms_of, stands, added, all_lawful, above, keepable, judge_rows}
use Rattle.exact.specs.RowLaws.{above_empty, forms_of_pack, Held, held, accepts, pack_length, pack_bytes}
use Rattle.exact.specs.Adding.{added_length, added_lawful, added_rising, added_stands, added_keeps, added_only}
use Rattle.exact.specs.Exact.{ExactView, exact_allows, exact_put, exact_kind, exact_view}

-- forms that a list may keep
pub record Keepable (fs : List (List ℕ)) : Type 0 where
  pub few : length fs ≤ 64
  pub shaped : all_lawful fs ≡ true
  pub rising : above [] fs ≡ true

pub keepable_parts : (fs : List (List ℕ)) → keepable fs ≡ true → Keepable fs
keepable_parts fs e =
    let p = and_parts (nat_le (length fs) 64) (all_lawful fs && above [] fs) e in
    let q = and_parts (all_lawful fs) (above [] fs) p.1 in
    record { few = leb-true (length fs) 64 p.0; shaped = q.0; rising = q.1 }

pub keepable_from : (fs : List (List ℕ)) → Keepable fs → keepable fs ≡ true
keepable_from fs k = and_from (nat_le (length fs) 64) (all_lawful fs && above [] fs) (le-leb (length fs) 64 k.few) (and_from (all_lawful fs) (above [] fs) k.shaped k.rising)

-- a new form with room for it
pub added_keepable : (x : List ℕ) (fs : List (List ℕ)) → Lawful x → Keepable fs → stands x fs ≡ false → length fs < 64 → Keepable (added x fs)
added_keepable x fs w k n l =
    let z = added_length x fs in
    record { few = omega arith; shaped = added_lawful x fs ((decides_lawful x).1 w) k.shaped; rising = added_rising [] x fs (above_empty w) k.rising n }

put_keepable : (x : List ℕ) (fs : List (List ℕ)) → Lawful x → Keepable fs → (stands x fs || nat_lt (length fs) 64) ≡ true → Keepable (exact_put fs x)
put_keepable x fs w k t =
    ⊎_elim
    (λ e. rw (cond-true (stands x fs) fs (added x fs) e) k)
    (λ e. rw (cond-false (stands x fs) fs (added x fs) e)
    (added_keepable x fs w k e (⊎_elim (λ z. absurd (both_ways (stands x fs) e z)) (λ z. ltb-true (length fs) 64 z) (or_cases (stands x fs) (nat_lt (length fs) 64) t))))
    (cases_Bool (stands x fs))

put_stands : (x : List ℕ) (fs : List (List ℕ)) → stands x (exact_put fs x) ≡ true
put_stands x fs =
    ⊎_elim
    (λ e. rw (cond-true (stands x fs) fs (added x fs) e) e)
    (λ e. rw (cond-false (stands x fs) fs (added x fs) e) (added_stands x fs))
    (cases_Bool (stands x fs))

put_keeps : (x y : List ℕ) (fs : List (List ℕ)) → stands y fs ≡ true → stands y (exact_put fs x) ≡ true
put_keeps x y fs h =
    ⊎_elim
    (λ e. rw (cond-true (stands x fs) fs (added x fs) e) h)
    (λ e. rw (cond-false (stands x fs) fs (added x fs) e) (added_keeps x y fs h))
    (cases_Bool (stands x fs))

put_only : (x y : List ℕ) (fs : List (List ℕ)) → (x ≢ y) → stands y (exact_put fs x) ≡ true → stands y fs ≡ true
put_only x y fs n h =
    ⊎_elim
    (λ e. sym (ap (stands y) (cond-true (stands x fs) fs (added x fs) e)) ∙ h)
    (λ e. added_only x y fs (λ s. n ((bytes_eq-Decides x y).0 s)) (sym (ap (stands y) (cond-false (stands x fs) fs (added x fs) e)) ∙ h))
    (cases_Bool (stands x fs))

-- bytes that are accepted under a hash count
pub record Accepted (hashes : ℕ) (body : List ℕ) : Type 0 where
  pub counted : hashes_allowed hashes ≡ true
  pub short : length body ≤ 1536
  pub fine_rows : judge_rows body ≡ fine

fine_content : (c : Content) → content_reason c ≡ None → c ≡ fine
fine_content fine e = refl
fine_content misvalued e = cc
fine_content unsorted e = cc

pub accepted_parts : (hashes : ℕ) (body : List ℕ) → judged exact_kind hashes body ≡ None → Accepted hashes body
accepted_parts hashes body e =
    let f = fitting exact_kind hashes body e in
    record { counted = f.counted; short = leb-true (length body) 1536 f.measured; fine_rows = fine_content (judge_rows body) f.well }

pub rows_held : (body : List ℕ) → judge_rows body ≡ fine → Held 64 [] body (forms_of body)
rows_held body e = held (length body) 64 [] body (omega arith) e

pub held_keepable : (body : List ℕ) → judge_rows body ≡ fine → Keepable (forms_of body)
held_keepable body e = let h = rows_held body e in record { few = h.few; shaped = h.shaped; rising = h.rising }

pub kept_short : (fs : List (List ℕ)) → Keepable fs → length (pack fs) ≤ 1536
kept_short fs k = let a = k.few in let l = pack_length fs k.shaped in omega arith

sound_parts : (v : ExactView) → exact_kind.sound v ≡ true → (hashes_allowed v.hashing.hashes ≡ true) × Keepable v.forms
sound_parts v e = let p = and_parts (hashes_allowed v.hashing.hashes) (keepable v.forms) e in (p.0, keepable_parts v.forms p.1)

sound_from : (v : ExactView) → hashes_allowed v.hashing.hashes ≡ true → Keepable v.forms → exact_kind.sound v ≡ true
sound_from v h k = and_from (hashes_allowed v.hashing.hashes) (keepable v.forms) h (keepable_from v.forms k)

no_forms : Keepable []
no_forms = record { few = omega arith; shaped = refl; rising = refl }

pub allowed_parts : (size hashes : ℕ) → exact_allows size hashes ≡ true → (size ≡ 1536) × (hashes_allowed hashes ≡ true)
allowed_parts size hashes e = let p = and_parts (size == 1536) (hashes_allowed hashes) e in (eqb-true size 1536 p.0, p.1)

pub exact_rules : Rules exact_kind
exact_rules = record {
  within = λ size hashes e. let p = allowed_parts size hashes e in let q = p.0 in (omega arith, p.1);
  sound_blank = refl;
  sound_cleared = λ s e. sound_from (exact_kind.cleared s) (allowed_parts s.size s.hashing.hashes e).1 no_forms;
  sound_put = λ v x e w t. let p = sound_parts v e in sound_from (exact_kind.put v x) p.0 (put_keepable x v.forms w p.1 t);
  sound_loaded = λ h body b e. let a = accepted_parts h.hashes body e in sound_from (exact_kind.loaded h body) a.counted (held_keepable body a.fine_rows);
  ready_cleared = λ s e. refl;
  ready_put = λ v x e w t r. refl;
  ready_loaded = λ h body b e. refl;
  set = λ s e. let q = sym (allowed_parts s.size s.hashing.hashes e).0 in ap (λ (n : ℕ). record { hashing = s.hashing; size = n }) q;
  kept = λ v x e r w t. refl;
  none_blank = λ x w. refl;
  none_cleared = λ s x e w. refl;
  has = λ v x e w t. put_stands x v.forms;
  still = λ v x y e w u t h. put_keeps x y v.forms h;
  fits = λ v e r. let k = (sound_parts v e).1 in (kept_short v.forms k, pack_bytes v.forms k.shaped);
  accepted = λ v e r. let p = sound_parts v e in
      let k = p.1 in
      accepted_from exact_kind v.hashing.hashes (pack v.forms) (record {
        counted = p.0;
        measured = le-leb (length (pack v.forms)) 1536 (kept_short v.forms k);
        well = ap content_reason (accepts 64 [] v.forms k.few k.shaped k.rising);
      });
  under = λ h body b e. refl;
  restored = λ v x e r w. ap (stands x) (forms_of_pack v.forms);
}

pub exact_alone : Alone exact_kind
exact_alone = record { alone = λ v x y e w u t h n. put_only x y v.forms n h }

-- rows in memory have a sound view
pub exact_sound : (h : Hashing) (body : List ℕ) → hashes_allowed h.hashes ≡ true → keepable (forms_of body) ≡ true → exact_kind.sound (exact_view h body) ≡ true
exact_sound h body c k = and_from (hashes_allowed h.hashes) (keepable (forms_of body)) c k
