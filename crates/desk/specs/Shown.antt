-- What a sheet says of a pass of a side.
use Rattle.levels.specs.declared.Side.{Side}
use Rattle.levels.specs.declared.Side.TheVariants.{For, Against}
use Rattle.sheets.specs.declared.Side.{Side as SheetSide}
use Rattle.sheets.specs.declared.Side.TheVariants.{Good, Blocked}

abbrev pub in_sheet : Side → SheetSide
in_sheet For = Blocked
in_sheet Against = Good
