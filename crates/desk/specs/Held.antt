-- What a desk holds.
use Rattle.std.specs.Prelude.{◌≡◌, [], None, vec_items}
use Rattle.std.specs.BTreeMap.{keys}
use Rattle.passes.specs.Made.{first_chip}
use Rattle.desk.specs.declared.desk.Desk.{Desk}
use Rattle.desk.specs.Filters.{held_view}

-- no buffer, filter, plan or levels, an empty register, the first chip pass in hand, and no sheet begun
abbrev pub Fresh : Desk → Type 0
Fresh d = (keys d.buffers.all ≡ []) × (d.filter ≡ None) × (d.chip ≡ first_chip) × (vec_items d.register.list ≡ []) × (d.plan ≡ None) × (d.levels ≡ None) × (d.draft ≡ None)

-- the same buffers, chip pass in hand, filter, register, plan, levels and sheet begun
abbrev pub Same : Desk → Desk → Type 0
Same x y = (x.buffers ≡ y.buffers) × (x.chip ≡ y.chip) × (held_view x.filter ≡ held_view y.filter) × (x.register ≡ y.register) × (x.plan ≡ y.plan) × (x.levels ≡ y.levels) × (x.draft ≡ y.draft)
