-- What a decider is built from: written forms, each with a mark.
use Rattle.std.specs.Prelude.{◌≡◌, ℕ, ◌⊎◌, List, [], ◌∷◌}
use Rattle.passes.specs.Lawful.{Lawful}
use Rattle.levels.specs.declared.Side.{Side}
use Rattle.levels.specs.declared.Side.TheVariants.{For, Against}
use Rattle.levels.specs.declared.Entry.{Entry}

-- a form with its mark: 1 for, 2 against, else left out
pub record Row : Type 0 where
  pub form : List ℕ
  pub mark : ℕ

abbrev pub mark_of : Side → ℕ
mark_of For = 1
mark_of Against = 2

-- the rows of a register under the marks kept beside it
abbrev pub rows : {I : Type 0} → (I → List ℕ) → List (Entry I) → List ℕ → List Row
rows f [] ms = []
rows f (e ∷ es) [] = []
rows f (e ∷ es) (m ∷ ms) = record { form = f e.id; mark = m } ∷ rows f es ms

-- the rows of a register by its sides
abbrev pub listed : {I : Type 0} → (I → List ℕ) → List (Entry I) → List Row
listed f [] = []
listed f (e ∷ es) = record { form = f e.id; mark = mark_of e.side } ∷ listed f es

abbrev pub In : Row → List Row → Type 0
In r [] = ⊥
In r (q ∷ rs) = (r ≡ q) ⊎ In r rs

-- a form has one mark at most
abbrev pub Distinct : List Row → Type 0
Distinct rs = (q r : Row) → In q rs → In r rs → q.form ≡ r.form → q.mark ≡ r.mark

-- every form is an identifier's
abbrev pub LawfulRows : List Row → Type 0
LawfulRows rs = (r : Row) → In r rs → Lawful r.form
