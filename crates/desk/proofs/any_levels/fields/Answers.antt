use Rattle.std.proofs.Common.{◌≡◌, ℕ, Bool, true, false, cond, leb, List, ◌++◌, length, take, drop, Some, None, Option, sym, ap, ◌∙◌, arith}
use Rattle.std.proofs.lemmas.List.{take_at}
use Rattle.std.proofs.lemmas.Result.{IfOk-weaker}
use Rattle.desk.proofs.any_levels.fields.Goals as goal

-- the bytes in front of an output, if they were written there
front : (b : Bool) (bs rest old new : List ℕ) (o : Option ℕ) (n : ℕ) → ◌≡◌ {A = Option ℕ × List ℕ} (o, new) (cond b (Some (length bs), bs ++ rest) (None, old)) → o ≡ Some n → take n new ≡ bs
front true bs rest old new o n e s =
    let first : o ≡ Some (length bs) = ap (λ p. p.0) e in
    let second : new ≡ bs ++ rest = ap (λ p. p.1) e in
    let size : length bs ≡ n = cc in
    ap (take n) second ∙ take_at bs rest n size
front false bs rest old new o n e s =
    let none : o ≡ None = ap (λ p. p.0) e in
    let z : ◌≡◌ {A = ℕ} 0 1 = cc in
    absurd (omega arith)

pub returns : goal.returns
returns g c =
    let bs : List ℕ = g.D.Decider.decider.saved 1 (g.D.Decider.state c.args.levels.now) in
    IfOk-weaker c.saved.result _ _
    (λ v s.
    let old = s.wrote.shown.now in
    s.front ∙ ap (take s.many) (sym s.wrote.leaves) ∙ front (leb (length bs) (length old)) bs (drop (length bs) old) old s.wrote.left.now s.said s.many s.wrote.met s.so)
    c.saved.ensures
