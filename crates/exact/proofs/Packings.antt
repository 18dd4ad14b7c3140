-- The bytes that are accepted are the packings of forms that a list may keep.
use Rattle.std.proofs.Common.{◌≡◌, ℕ, zero, suc, ◌<◌, true, false, List, [], ◌∷◌, ◌++◌, length, get_or, is_ok, Decides, Result, sym, refl, ap, ◌∙◌, ⊎_elim, arith}
use Rattle.std.proofs.lemmas.List.{length_push}
use Rattle.std.proofs.lemmas.Bool.{both_ways, cases_Bool, and_parts, and_from, le-leb, true≢false}
use Rattle.refusals.specs.declared.Refusal.{Refusal}
use Rattle.passes.specs.Lawful.{Lawful, tag, chip, lawful}
use Rattle.passes.specs.Order.{Before, before, shorter}
use Rattle.passes.proofs.Orders.{strict_order}
use Rattle.passes.proofs.Shapes.{decides_lawful}
use Rattle.filters.specs.Kind.{Content, fine, misvalued, unsorted, content_reason}
use Rattle.filters.specs.Answers.{answered}
use Rattle.filters.specs.Judged.{accepted_from}
use Rattle.exact.specs.Rows.{forms_of, all_lawful, above, judge_rows}
use Rattle.exact.specs.RowLaws.{accepts, forms_of_pack}
use Rattle.exact.specs.Exact.{exact_kind}
use Rattle.exact.specs.Rules.{Keepable, accepted_parts, rows_held, held_keepable, kept_short}
use Rattle.exact.specs.Packing.{Roll, Packing, Misplaced, PackingLaw}
use Rattle.exact.proofs.Faults.{latest, fault, faulty, push_lawful, push_above, pushed_above}

each_lawful : (fs : List (List ℕ)) → all_lawful fs ≡ true → (i : ℕ) → i < length fs → Lawful (get_or fs i [])
each_lawful [] s i l = absurd (omega arith)
each_lawful (f ∷ fs) s zero l = (decides_lawful f).0 (and_parts (lawful f) (all_lawful fs) s).0
each_lawful (f ∷ fs) s (suc i) l = each_lawful fs (and_parts (lawful f) (all_lawful fs) s).1 i (omega arith)

all_from : (fs : List (List ℕ)) → ((i : ℕ) → i < length fs → Lawful (get_or fs i [])) → all_lawful fs ≡ true
all_from [] h = refl
all_from (f ∷ fs) h = and_from (lawful f) (all_lawful fs) ((decides_lawful f).1 (h 0 (omega arith))) (all_from fs (λ i l. h (suc i) (omega arith)))

-- every form stands above `last`, and so before the later ones
above_each : (last : List ℕ) (fs : List (List ℕ)) → above last fs ≡ true → (j : ℕ) → j < length fs → Before last (get_or fs j [])
above_each last [] r j l = absurd (omega arith)
above_each last (f ∷ fs) r zero l = (strict_order.tested last f).0 (and_parts (before last f) (above f fs) r).0
above_each last (f ∷ fs) r (suc j) l =
    let p = and_parts (before last f) (above f fs) r in
    strict_order.onward last f (get_or fs j []) ((strict_order.tested last f).0 p.0) (above_each f fs p.1 j (omega arith))

pairs : (last : List ℕ) (fs : List (List ℕ)) → above last fs ≡ true → (i j : ℕ) → i < j → j < length fs → Before (get_or fs i []) (get_or fs j [])
pairs last [] r i j l m = absurd (omega arith)
pairs last (f ∷ fs) r i zero l m = absurd (omega arith)
pairs last (f ∷ fs) r zero (suc j) l m = above_each f fs (and_parts (before last f) (above f fs) r).1 j (omega arith)
pairs last (f ∷ fs) r (suc i) (suc j) l m = pairs f fs (and_parts (before last f) (above f fs) r).1 i j (omega arith) (omega arith)

above_from : (last : List ℕ) (fs : List (List ℕ)) → ((j : ℕ) → j < length fs → Before last (get_or fs j [])) → ((i j : ℕ) → i < j → j < length fs → Before (get_or fs i []) (get_or fs j [])) → above last fs ≡ true
above_from last [] b h = refl
above_from last (f ∷ fs) b h =
    and_from (before last f) (above f fs) ((strict_order.tested last f).1 (b 0 (omega arith)))
    (above_from f fs (λ j l. h 0 (suc j) (omega arith) (omega arith)) (λ i j l m. h (suc i) (suc j) (omega arith) (omega arith)))

not_empty : {x : List ℕ} → Lawful x → Before [] x
not_empty (tag e b) = shorter
not_empty (chip l h b) = shorter

roll_from : (fs : List (List ℕ)) → Keepable fs → Roll fs
roll_from fs k = record { few = k.few; shaped = each_lawful fs k.shaped; rising = pairs [] fs k.rising }

keepable_roll : (fs : List (List ℕ)) → Roll fs → Keepable fs
keepable_roll fs r = record { few = r.few; shaped = all_from fs r.shaped; rising = above_from [] fs (λ j l. not_empty (r.shaped j l)) r.rising }

rows_packed : (body : List ℕ) → judge_rows body ≡ fine → Packing body
rows_packed body e = record { forms = forms_of body; kept = roll_from (forms_of body) (held_keepable body e); packed = (rows_held body e).packed }

packed_rows : (body : List ℕ) → Packing body → judge_rows body ≡ fine
packed_rows body p = let k = keepable_roll p.forms p.kept in ap judge_rows (sym p.packed) ∙ accepts 64 [] p.forms k.few k.shaped k.rising

-- rows that are refused for their order
rows_misplaced : (body : List ℕ) → judge_rows body ≡ unsorted → Misplaced body
rows_misplaced body e =
    let h = fault 64 [] body e in
    let n = h.few in
    record {
      forms = h.forms;
      next = h.next;
      more = h.more;
      kept = roll_from h.forms (record { few = omega arith; shaped = h.shaped; rising = h.rising });
      room = h.few;
      shaped = (decides_lawful h.next).0 h.fits;
      low = λ r. both_ways (before (latest [] h.forms) h.next) h.low (pushed_above [] h.forms h.next (keepable_roll (h.forms ++ h.next ∷ []) r).rising);
      packed = h.packed;
    }

misplaced_rows : (body : List ℕ) → Misplaced body → judge_rows body ≡ unsorted
misplaced_rows body m =
    let fs = m.forms in
    let f = m.next in
    let k = keepable_roll fs m.kept in
    let w = (decides_lawful f).1 m.shaped in
    let n = m.room in
    let l = length_push fs f in
    let b : before (latest [] fs) f ≡ false =
    ⊎_elim
    (λ t. absurd (m.low (roll_from (fs ++ f ∷ []) (record { few = omega arith; shaped = push_lawful fs f k.shaped w; rising = push_above [] fs f k.rising t }))))
    (λ t. t)
    (cases_Bool (before (latest [] fs) f)) in
    ap judge_rows (sym m.packed) ∙ faulty 64 [] fs f m.more m.room k.shaped k.rising w b

-- the answer of a judge that says when it is good
ok_fine : (k : Content) → is_ok (answered (content_reason k)) ≡ true → k ≡ fine
ok_fine fine e = refl
ok_fine misvalued e = absurd (true≢false (sym e))
ok_fine unsorted e = absurd (true≢false (sym e))

pub judge_decides : (body : List ℕ) (r : Result (Unit {0}) Refusal) → r ≡ answered (content_reason (judge_rows body)) → Decides (is_ok r) (Packing body)
judge_decides body r e = (
  λ t. rows_packed body (ok_fine (judge_rows body) (sym (ap is_ok e) ∙ t)),
  λ p. ap is_ok (e ∙ ap (λ (k : Content). answered (content_reason k)) (packed_rows body p)),
)

pub packing_law : PackingLaw
packing_law = record {
  sufficient = λ hashes body h p.
      let k = keepable_roll p.forms p.kept in
      let s = kept_short p.forms k in
      let l = ap length p.packed in
      accepted_from exact_kind hashes body (record { counted = h; measured = le-leb (length body) 1536 (omega arith); well = ap content_reason (packed_rows body p) });
  necessary = λ hashes body e. rows_packed body (accepted_parts hashes body e).fine_rows;
  unsorted_if = misplaced_rows;
  unsorted_only = rows_misplaced;
  unique = λ fs gs e. sym (forms_of_pack fs) ∙ ap forms_of e ∙ forms_of_pack gs;
  load_save = λ h body e. (rows_held body (accepted_parts h.hashes body e).fine_rows).packed;
  save_load = λ v. ap (λ (fs : List (List ℕ)). record { hashing = v.hashing; forms = fs }) (forms_of_pack v.forms);
}
