use Rattle.std.proofs.Common.{◌≡◌, ℕ, ◌-◌, ◌<◌, ◌≤◌, List, length, get_or, take, min, sym, ap, ◌∙◌, arith, rules}
use Rattle.std.proofs.Math.Nat.{min-le_left, min-le_right}
use Rattle.std.proofs.lemmas.List.{length-take-le, take_min}
use Rattle.passes.specs.Bytes.{bytes}
use Rattle.passes.specs.ByteLaws.{bytes_from, bytes_take}
use Rattle.filters.specs.Tables.{TableView}
use Rattle.filters.specs.Fronts.{front_is, front_real}
use Rattle.filters.proofs.table.Table.refill.Goals as goal

-- the n bytes that are copied of a body
record Copied (body part : List ℕ) (n : ℕ) : Type 0 where
  low : n ≤ 2048
  long : length part ≡ n
  whole : part ≡ take 2048 body

copied : (body part : List ℕ) (n : ℕ) → n ≡ min (length body) 2048 → part ≡ take (n - 0) body → Copied body part n
copied body part n least e =
    let a = min-le_left (length body) 2048 in
    let b = min-le_right (length body) 2048 in
    let z : n - 0 ≡ n = omega arith in
    let is : part ≡ take n body = e ∙ ap (λ (k : ℕ). take k body) z in
    let m : n ≡ min 2048 (length body) = omega arith in
    record { low = omega arith; long = ap length is ∙ length-take-le n body (omega arith); whole = is ∙ ap (λ (k : ℕ). take k body) m ∙ take_min 2048 body }

pub invariant_of-self : goal.invariant_of-self
invariant_of-self c =
    let me = c.args.self.now in
    let body = c.args.body.now in
    let n = c.min-size.result in
    let part = c.copy_from_slice.new.self in
    let p = copied body part n c.min-size.ensures c.copy_from_slice.ensures.after in
    let fits = p.low in
    let bound : (i : ℕ) → get_or body i 0 < 256 = λ i. search rules in
    record { fits = fits; real = front_real n part me.buffer p.long (omega (arith, me.real.0)) (ap bytes c.copy_from_slice.ensures.after ∙ bytes_take (n - 0) body (bytes_from body bound)) me.real }

pub returns : goal.returns
returns c =
    let p = copied c.args.body.now c.copy_from_slice.new.self c.min-size.result c.min-size.ensures c.copy_from_slice.ensures.after in
    let view : ℕ → List ℕ → TableView = λ k t. record { settings = record { hashing = c.args.hashing; size = k }; table = t } in
    let front = front_is c.min-size.result c.copy_from_slice.new.self c.args.self.now.buffer p.long (omega (arith, c.args.self.now.real.0, p.low)) in
    ap (view c.min-size.result) (front ∙ p.whole) ∙ ap (λ (k : ℕ). view k (take 2048 c.args.body.now)) (sym p.long ∙ ap length p.whole)
