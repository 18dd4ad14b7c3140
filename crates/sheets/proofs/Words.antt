-- Lawful forms in ascending order, word by word and by their places.
use Rattle.std.proofs.Common.{◌≡◌, ℕ, zero, suc, ◌<◌, ◌≤◌, Bool, true, ◌&&◌, List, [], ◌∷◌, length, refl, arith}
use Rattle.std.proofs.lemmas.Bool.{and_parts, and_from}
use Rattle.passes.specs.Bytes.{bytes}
use Rattle.passes.specs.Lawful.{Lawful, tag, chip, lawful, lawful_length}
use Rattle.passes.specs.Order.{Before, before, shorter}
use Rattle.passes.proofs.Orders.{strict_order}
use Rattle.passes.proofs.Shapes.{decides_lawful}
use Rattle.sheets.specs.Sheets.{Word}
use Rattle.sheets.specs.Layout.{form_at}

abbrev pub all_lawful : List Word → Bool
all_lawful [] = true
all_lawful (w ∷ ws) = lawful w.form && all_lawful ws

-- each form stands above the one before it, and the first above `last`
abbrev pub above : List ℕ → List Word → Bool
above last [] = true
above last (w ∷ ws) = before last w.form && above w.form ws

pub each_lawful : (ws : List Word) → all_lawful ws ≡ true → (i : ℕ) → i < length ws → Lawful (form_at ws i)
each_lawful [] s i l = absurd (omega arith)
each_lawful (w ∷ ws) s zero l = (decides_lawful w.form).0 (and_parts (lawful w.form) (all_lawful ws) s).0
each_lawful (w ∷ ws) s (suc i) l = each_lawful ws (and_parts (lawful w.form) (all_lawful ws) s).1 i (omega arith)

pub all_from : (ws : List Word) → ((i : ℕ) → i < length ws → Lawful (form_at ws i)) → all_lawful ws ≡ true
all_from [] h = refl
all_from (w ∷ ws) h = and_from (lawful w.form) (all_lawful ws) ((decides_lawful w.form).1 (h 0 (omega arith))) (all_from ws (λ i l. h (suc i) (omega arith)))

above_each : (last : List ℕ) (ws : List Word) → above last ws ≡ true → (j : ℕ) → j < length ws → Before last (form_at ws j)
above_each last [] r j l = absurd (omega arith)
above_each last (w ∷ ws) r zero l = (strict_order.tested last w.form).0 (and_parts (before last w.form) (above w.form ws) r).0
above_each last (w ∷ ws) r (suc j) l =
    let p = and_parts (before last w.form) (above w.form ws) r in
    strict_order.onward last w.form (form_at ws j) ((strict_order.tested last w.form).0 p.0) (above_each w.form ws p.1 j (omega arith))

pub pairs : (last : List ℕ) (ws : List Word) → above last ws ≡ true → (i j : ℕ) → i < j → j < length ws → Before (form_at ws i) (form_at ws j)
pairs last [] r i j l m = absurd (omega arith)
pairs last (w ∷ ws) r i zero l m = absurd (omega arith)
pairs last (w ∷ ws) r zero (suc j) l m = above_each w.form ws (and_parts (before last w.form) (above w.form ws) r).1 j (omega arith)
pairs last (w ∷ ws) r (suc i) (suc j) l m = pairs w.form ws (and_parts (before last w.form) (above w.form ws) r).1 i j (omega arith) (omega arith)

above_from : (last : List ℕ) (ws : List Word) → ((j : ℕ) → j < length ws → Before last (form_at ws j)) → ((i j : ℕ) → i < j → j < length ws → Before (form_at ws i) (form_at ws j)) → above last ws ≡ true
above_from last [] b h = refl
above_from last (w ∷ ws) b h =
    and_from (before last w.form) (above w.form ws) ((strict_order.tested last w.form).1 (b 0 (omega arith)))
    (above_from w.form ws (λ j l. h 0 (suc j) (omega arith) (omega arith)) (λ i j l m. h (suc i) (suc j) (omega arith) (omega arith)))

not_empty : {x : List ℕ} → Lawful x → Before [] x
not_empty (tag e b) = shorter
not_empty (chip l h b) = shorter

pub above_empty : (ws : List Word) → ((i : ℕ) → i < length ws → Lawful (form_at ws i)) → ((i j : ℕ) → i < j → j < length ws → Before (form_at ws i) (form_at ws j)) → above [] ws ≡ true
above_empty ws s r = above_from [] ws (λ j l. not_empty (s j l)) r

pub lawful_size : (f : List ℕ) → lawful f ≡ true → (4 ≤ length f) × (length f ≤ 23)
lawful_size f h = lawful_length ((decides_lawful f).0 h)

pub lawful_bytes : (f : List ℕ) → lawful f ≡ true → bytes f ≡ true
lawful_bytes f h = (and_parts _ (bytes f) h).1
