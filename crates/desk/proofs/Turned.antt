-- An entry turned at its place. Assumes nothing.
use Rattle.std.proofs.Common.{◌≡◌, ℕ, zero, suc, List, [], ◌∷◌, get_or, set, refl, ap}
use Rattle.levels.specs.declared.Entry.{Entry}
use Rattle.desk.specs.declared.pass.Pass.{Pass}
use Rattle.desk.specs.Registers.{turned_entry, turned_at}

-- writing the entry at a place anew with its other side turns it
pub set_turns : (i : ℕ) (l : List (Entry Pass)) (d : Entry Pass) → set l i (turned_entry (get_or l i d)) ≡ turned_at i l
unfolding turned_at
set_turns i [] d = refl
set_turns zero (e ∷ l) d = refl
set_turns (suc i) (e ∷ l) d = ap (λ (t : List (Entry Pass)). e ∷ t) (set_turns i l d)
