use Rattle.std.proofs.Common.{◌≡◌, ℕ, ◌*◌, ◌/◌, ◌%◌, ◌^◌, ◌<◌, List, get_or, set, take, sym, ap, ◌∙◌, length-set, arith}
use lib.Bits.{bit_or}
use Rattle.std.proofs.Math.Seq.{take-set-lt}
use Rattle.std.proofs.lemmas.List.{get_or-take}
use Rattle.std.proofs.lemmas.Nat.{or_lt, mod_below}
use Rattle.passes.specs.ByteLaws.{bytes_at, bytes_set}
use Rattle.filters.specs.declared.Settings.{Settings}
use Rattle.bloom.specs.Bits.{position}
use Rattle.bloom.proofs.Steps.{set_step}
use Rattle.bloom.proofs.table.Bloom.set.Goals as goal

pub invariant_of-self : goal.invariant_of-self
invariant_of-self c =
    let me = c.loop-i.self.table in
    let n = c.position-n.result in
    let w : (1 * 2 ^ (n % 8)) % 256 < 2 ^ 8 = mod_below (1 * 2 ^ (n % 8)) 256 (omega arith) in
    let v = or_lt 8 (get_or me.buffer (n / 8) 0) ((1 * 2 ^ (n % 8)) % 256) (bytes_at me.buffer (n / 8) me.real.1) w in
    ((me.fits, ((simp length-set me.real.0, bytes_set me.buffer (n / 8) _ me.real.1 v), tt)), (c.loop-i.self.allowed, tt))

pub loop-i-preserved : goal.loop-i-preserved
loop-i-preserved c =
    let t = c.loop-i.self.table.buffer in
    let me = c.args.self.now.table in
    let n = me.settings.size in
    let h = c.args.pair in
    let i = c.loop-i.i in
    let same : c.loop-i.self.table.settings.size ≡ n = ap (λ (s : Settings). s.size) c.loop-i.invariant.same in
    let p = c.position-n.result in
    let is : p ≡ position h.h1 h.h2 (8 * n) i = c.position-n.ensures.is ∙ ap (λ (m : ℕ). position h.h1 h.h2 (8 * m) i) same in
    let low : p / 8 < n = let l = c.position-n.ensures.low in omega arith in
    let v : ℕ → ℕ = λ x. bit_or x ((1 * 2 ^ (p % 8)) % 256) in
    let step : ℕ → List ℕ = λ q. set (take n t) (q / 8) (bit_or (get_or (take n t) (q / 8) 0) ((1 * 2 ^ (q % 8)) % 256)) in
    record {
      same = c.loop-i.invariant.same;
      front =
          take-set-lt n t (p / 8) (v (get_or t (p / 8) 0)) low
          ∙ ap (λ (x : ℕ). set (take n t) (p / 8) (v x)) (sym (get_or-take n t (p / 8) 0 low))
          ∙ ap step is
          ∙ set_step h.h1 h.h2 (8 * n) i (take n t) (take n me.buffer) c.loop-i.invariant.front;
    }
