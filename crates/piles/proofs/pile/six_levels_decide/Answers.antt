use Rattle.std.proofs.Common.{refl, arith}
use Rattle.levels.specs.Keeping.{level_keeps, level_saves_tables, end_keeps, end_saves_tables}
use Rattle.piles.proofs.Even.{level_even, end_even}
use Rattle.piles.proofs.pile.six_levels_decide.Goals as goal

pub returns : goal.returns
returns g c = record {
  law = (
    record {
      keeps =
          level_keeps g.F1.Filter.kind g.F1.Filter.rules _
          (level_keeps g.F2.Filter.kind g.F2.Filter.rules _
          (level_keeps g.F3.Filter.kind g.F3.Filter.rules _
          (level_keeps g.F4.Filter.kind g.F4.Filter.rules _
          (level_keeps g.F5.Filter.kind g.F5.Filter.rules _
          (level_keeps g.F6.Filter.kind g.F6.Filter.rules _
          (end_keeps g.E.Filter.kind g.E.Filter.rules g.met.E.Exact.alone))))));
      even =
          level_even g.F1.Filter.kind _ 7 (omega arith)
          (level_even g.F2.Filter.kind _ 6 (omega arith)
          (level_even g.F3.Filter.kind _ 5 (omega arith)
          (level_even g.F4.Filter.kind _ 4 (omega arith)
          (level_even g.F5.Filter.kind _ 3 (omega arith)
          (level_even g.F6.Filter.kind _ 2 (omega arith) (end_even g.E.Filter.kind))))));
    },
    refl,
  );
  tables =
      level_saves_tables g.F1.Filter.kind g.F1.Filter.rules _ _
      (level_saves_tables g.F2.Filter.kind g.F2.Filter.rules _ _
      (level_saves_tables g.F3.Filter.kind g.F3.Filter.rules _ _
      (level_saves_tables g.F4.Filter.kind g.F4.Filter.rules _ _
      (level_saves_tables g.F5.Filter.kind g.F5.Filter.rules _ _
      (level_saves_tables g.F6.Filter.kind g.F6.Filter.rules _ _ (end_saves_tables g.E.Filter.kind g.E.Filter.rules))))));
}
