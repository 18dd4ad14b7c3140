-- "For" holds exactly at an even source.
use Rattle.std.proofs.Common.{◌≡◌, ℕ, ◌+◌, ◌%◌, ◌<◌, ◌≤◌, Bool, true, false, cond, List, sym, refl, arith}
use Rattle.filters.specs.Kind.{Kind}
use Rattle.levels.specs.declared.Side.TheVariants.{For, Against}
use Rattle.levels.specs.Deciders.{Answer, Decides, Over, turned, level_decides, end_decides}
use Rattle.piles.specs.Piles.{EvenFor}

-- the same of one answer
record EvenAt (a : Answer) (m : ℕ) : Type 0 where
  even : a.0 ≡ For → a.1 % 2 ≡ 0
  odd : a.0 ≡ Against → a.1 % 2 ≡ 1
  some : 1 ≤ a.1
  most : a.1 ≤ m

for_against : {A : Type 0} → For ≡ Against → A
for_against e = absurd (let z : ◌≡◌ {A = ℕ} 0 1 = cc in let b : ⊥ = omega arith in b)

turned_even : (says : Bool) (a : Answer) (m : ℕ) → m < 255 → EvenAt a m → EvenAt (cond says (turned a) (Against, 1)) (m + 1)
turned_even false a m l e = record { even = λ z. for_against (sym z); odd = λ z. refl; some = omega arith; most = omega arith }
turned_even true (For, n) m l e =
    let p = e.even refl in
    let q = e.most in
    let r = e.some in
    record { even = λ z. for_against (sym z); odd = λ z. omega arith; some = omega arith; most = omega arith }
turned_even true (Against, n) m l e =
    let p = e.odd refl in
    let q = e.most in
    let r = e.some in
    record { even = λ z. omega arith; odd = λ z. for_against z; some = omega arith; most = omega arith }

end_at : (says : Bool) → EvenAt (cond says (For, 2) (Against, 1)) 2
end_at true = record { even = λ z. refl; odd = λ z. for_against z; some = omega arith; most = omega arith }
end_at false = record { even = λ z. for_against (sym z); odd = λ z. refl; some = omega arith; most = omega arith }

pub end_even : {V : Type 0} (k : Kind V) → EvenFor (end_decides k) 2
end_even k = record {
  even = λ s x. (end_at (k.says s x)).even;
  odd = λ s x. (end_at (k.says s x)).odd;
  some = λ s x. (end_at (k.says s x)).some;
  most = λ s x. (end_at (k.says s x)).most;
}

pub level_even : {V S : Type 0} (k : Kind V) (d : Decides S) (m : ℕ) → m < 255 → EvenFor d m → EvenFor (level_decides k d) (m + 1)
level_even {V} {S} k d m l e =
    let at : (s : Over V S) (x : List ℕ) → EvenAt ((level_decides k d).decides s x) (m + 1) =
    λ s x. turned_even (k.says s.filter x) (d.decides s.below x) m l
    (record { even = e.even s.below x; odd = e.odd s.below x; some = e.some s.below x; most = e.most s.below x })
    in
    record { even = λ s x. (at s x).even; odd = λ s x. (at s x).odd; some = λ s x. (at s x).some; most = λ s x. (at s x).most }
