-- Rows and the forms that they hold.
use Rattle.std.specs.Prelude.{◌≡◌, ℕ, zero, suc, ◌*◌, ◌≤◌, Bool, true, false, cond, ◌&&◌, List, [], ◌∷◌, ◌++◌, length, take, drop, ◌≢◌, nat_le, nat_lt, refl}
use Rattle.std.proofs.Common.{ap, ◌∙◌, ⊎_elim, arith}
use Rattle.std.specs.Str.{bytes_eq}
use Rattle.std.proofs.lemmas.Slice.Eq.{bytes_eq-Decides}
use Rattle.std.proofs.lemmas.List.{take_at, drop_at, length-append, take-append-drop, length-take-le, length-drop}
use Rattle.std.proofs.lemmas.Bool.{and_parts, and_from, cond-true, both_ways, leb-true, le-leb, lt-ltb}
use Rattle.passes.specs.Bytes.{bytes}
use Rattle.passes.specs.ByteLaws.{bytes_append}
use Rattle.passes.specs.Lawful.{Lawful, tag, chip, lawful, lawful_length}
use Rattle.passes.specs.Order.{before}
use Rattle.passes.proofs.Orders.{strict_order}
use Rattle.passes.proofs.Shapes.{decides_lawful}
use Rattle.filters.specs.Kind.{Content, fine, misvalued, unsorted}
use Rattle.exact.specs.Rows.{row, pack, first_forms, forms_of, all_lawful, above, whole, judge_from}

-- forms

pub lawful_size : (f : List ℕ) → lawful f ≡ true → (4 ≤ length f) × (length f ≤ 23)
lawful_size f h = lawful_length ((decides_lawful f).0 h)

lawful_bytes : (f : List ℕ) → lawful f ≡ true → bytes f ≡ true
lawful_bytes f h = (and_parts _ (bytes f) h).1

pub above_empty : {x : List ℕ} → Lawful x → before [] x ≡ true
above_empty (tag e b) = refl
above_empty (chip l h b) = refl

pub same_itself : (x : List ℕ) → bytes_eq x x ≡ true
same_itself x = (bytes_eq-Decides x x).1 refl

onward : (x y z : List ℕ) → before x y ≡ true → before y z ≡ true → before x z ≡ true
onward x y z h k = (strict_order.tested x z).1 (strict_order.onward x y z ((strict_order.tested x y).0 h) ((strict_order.tested y z).0 k))

-- of two forms that differ one stands before the other
pub turned : (x y : List ℕ) → before x y ≡ false → bytes_eq x y ≡ false → before y x ≡ true
turned x y b s =
    ⊎_elim
    (λ e. absurd (both_ways (bytes_eq x y) s ((bytes_eq-Decides x y).1 e)))
    (⊎_elim (λ h. absurd (both_ways (before x y) b ((strict_order.tested x y).1 h))) (λ h. (strict_order.tested y x).1 h))
    (strict_order.total x y)

-- rows

behind : (k n : ℕ) (rest : List ℕ) → suc (length rest) ≤ suc n → length (drop k rest) ≤ n
behind k n rest h = let l = length-drop k rest in omega arith

-- rows that fit hold the same forms, whatever room is left
pub enough : (n m : ℕ) (body : List ℕ) → length body ≤ n → length body ≤ m → first_forms n body ≡ first_forms m body
enough zero zero body h k = refl
enough zero (suc m) [] h k = refl
enough zero (suc m) (x ∷ rest) h k = absurd (omega arith)
enough (suc n) zero [] h k = refl
enough (suc n) zero (x ∷ rest) h k = absurd (omega arith)
enough (suc n) (suc m) [] h k = refl
enough (suc n) (suc m) (x ∷ rest) h k = ap (λ (fs : List (List ℕ)). take x rest ∷ fs) (enough n m (drop x rest) (behind x n rest h) (behind x m rest k))

pub forms_step : (k : ℕ) (rest : List ℕ) → forms_of (k ∷ rest) ≡ take k rest ∷ forms_of (drop k rest)
forms_step k rest = ap (λ (fs : List (List ℕ)). take k rest ∷ fs) (enough (length rest) (length (drop k rest)) (drop k rest) (behind k (length rest) rest (omega arith)) (omega arith))

unpacked : (n : ℕ) (fs : List (List ℕ)) → length (pack fs) ≤ n → first_forms n (pack fs) ≡ fs
unpacked zero [] h = refl
unpacked (suc n) [] h = refl
unpacked zero (f ∷ fs) h = absurd (omega arith)
unpacked (suc n) (f ∷ fs) h =
    let t = take_at f (pack fs) (length f) refl in
    let d = drop_at f (pack fs) (length f) refl in
    let l = length-append f (pack fs) in
    let r = unpacked n fs (omega arith) in
    rw (t, d) (ap (λ (gs : List (List ℕ)). f ∷ gs) r)

-- the forms that were packed
pub forms_of_pack : (fs : List (List ℕ)) → forms_of (pack fs) ≡ fs
forms_of_pack fs = unpacked (length (pack fs)) fs (omega arith)

-- what an accepting judge says of the forms
pub record Held (room : ℕ) (last body : List ℕ) (fs : List (List ℕ)) : Type 0 where
  pub few : length fs ≤ room
  pub shaped : all_lawful fs ≡ true
  pub rising : above last fs ≡ true
  pub packed : pack fs ≡ body

no_fine : misvalued ≡ fine → ⊥
no_fine e = cc

not_fine : unsorted ≡ fine → ⊥
not_fine e = cc

-- a test that passes on the way to an acceptance
passed : (b : Bool) (x y : Content) → (y ≢ fine) → cond b x y ≡ fine → (b ≡ true) × (x ≡ fine)
passed true x y n e = (refl, e)
passed false x y n e = absurd (n e)

first_row : (room k : ℕ) (last rest : List ℕ) → judge_from (suc room) last (k ∷ rest) ≡ fine → ((k ≤ length rest) × (lawful (take k rest) ≡ true)) × ((before last (take k rest) ≡ true) × (judge_from room (take k rest) (drop k rest) ≡ fine))
unfolding judge_from
first_row room k last rest e =
    let p = passed (whole k rest && lawful (take k rest)) _ misvalued no_fine e in
    let q = passed (before last (take k rest)) (judge_from room (take k rest) (drop k rest)) unsorted not_fine p.1 in
    let w = and_parts (whole k rest) (lawful (take k rest)) p.0 in
    let s = and_parts (nat_le 4 k && nat_le k 23) (nat_le k (length rest)) w.0 in
    ((leb-true k (length rest) s.1, w.1), q)

held_more : (room k : ℕ) (last rest : List ℕ) (fs : List (List ℕ)) → k ≤ length rest → lawful (take k rest) ≡ true → before last (take k rest) ≡ true → Held room (take k rest) (drop k rest) fs → Held (suc room) last (k ∷ rest) (take k rest ∷ fs)
held_more room k last rest fs l w b h =
    let a = h.few in
    let s = length-take-le k rest l in
    record {
      few = omega arith;
      shaped = and_from (lawful (take k rest)) (all_lawful fs) w h.shaped;
      rising = and_from (before last (take k rest)) (above (take k rest) fs) b h.rising;
      packed = rw (s, h.packed) (ap (λ (xs : List ℕ). k ∷ xs) (take-append-drop k rest));
    }

unjudged : (k : ℕ) (last rest : List ℕ) → judge_from zero last (k ∷ rest) ≢ fine
unfolding judge_from
unjudged k last rest e = no_fine e

pub held : (n room : ℕ) (last body : List ℕ) → length body ≤ n → judge_from room last body ≡ fine → Held room last body (first_forms n body)
held zero room last [] h e = record { few = omega arith; shaped = refl; rising = refl; packed = refl }
held (suc n) room last [] h e = record { few = omega arith; shaped = refl; rising = refl; packed = refl }
held zero room last (k ∷ rest) h e = absurd (omega arith)
held (suc n) zero last (k ∷ rest) h e = absurd (unjudged k last rest e)
held (suc n) (suc room) last (k ∷ rest) h e =
    let p = first_row room k last rest e in
    held_more room k last rest (first_forms n (drop k rest)) p.0.0 p.0.1 p.1.0 (held n room (take k rest) (drop k rest) (behind k n rest h) p.1.1)

pub no_row : (room : ℕ) (last : List ℕ) → judge_from room last [] ≡ fine
unfolding judge_from
no_row zero last = refl
no_row (suc room) last = refl

-- a whole row of a lawful form is judged by the order
pub row_judged : (room : ℕ) (last f more : List ℕ) → lawful f ≡ true → judge_from (suc room) last (row f ++ more) ≡ cond (before last f) (judge_from room f more) unsorted
unfolding judge_from
row_judged room last f more w =
    let t = take_at f more (length f) refl in
    let d = drop_at f more (length f) refl in
    let s = lawful_size f w in
    let l = length-append f more in
    let g : whole (length f) (f ++ more) ≡ true = and_from _ _ (and_from _ _ (le-leb 4 (length f) s.0) (le-leb (length f) 23 s.1)) (le-leb (length f) (length (f ++ more)) (omega arith)) in
    rw (t, d) (rw (g, w))

-- forms that are few, lawful and ascending are accepted
pub accepts : (room : ℕ) (last : List ℕ) (fs : List (List ℕ)) → length fs ≤ room → all_lawful fs ≡ true → above last fs ≡ true → judge_from room last (pack fs) ≡ fine
accepts room last [] h s r = no_row room last
accepts zero last (f ∷ fs) h s r = absurd (omega arith)
accepts (suc room) last (f ∷ fs) h s r =
    let p = and_parts (lawful f) (all_lawful fs) s in
    let q = and_parts (before last f) (above f fs) r in
    row_judged room last f (pack fs) p.0 ∙ cond-true (before last f) _ unsorted q.0 ∙ accepts room f fs (omega arith) p.1 q.1

-- a row has at most 24 bytes
pub pack_length : (fs : List (List ℕ)) → all_lawful fs ≡ true → length (pack fs) ≤ 24 * length fs
pack_length [] s = omega arith
pack_length (f ∷ fs) s =
    let p = and_parts (lawful f) (all_lawful fs) s in
    let z = lawful_size f p.0 in
    let r = pack_length fs p.1 in
    let l = length-append f (pack fs) in
    omega arith

pub pack_bytes : (fs : List (List ℕ)) → all_lawful fs ≡ true → bytes (pack fs) ≡ true
pack_bytes [] s = refl
pack_bytes (f ∷ fs) s =
    let p = and_parts (lawful f) (all_lawful fs) s in
    let z = lawful_size f p.0 in
    and_from (nat_lt (length f) 256) (bytes (f ++ pack fs)) (lt-ltb (length f) 256 (omega arith)) (bytes_append f (pack fs) (lawful_bytes f p.0) (pack_bytes fs p.1))
