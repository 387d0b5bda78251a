use Rattle.std.proofs.Common.{◌≡◌, drop, length, replicate}
use Rattle.std.specs.List.{AllByRecursion}
use Rattle.huff_table.specs.BuiltCodes.{AreTables}
use Rattle.huff_table.specs.ComponentTables.{tables_of, no_codes}
use Rattle.huff_table.proofs.FrameComponents.{put_all}
use Rattle.huff_table.proofs.plan_codes.PlanCodes.build.Given as goal

abbrev pub invariant-loop-component : goal.invariant-loop-component
invariant-loop-component l = record {
  long : length l.all.items ≡ 4;
  rest : put_all tables_of l.all.items (drop l.component-index l.components) ≡ put_all tables_of (replicate 4 no_codes) l.components;
  tables : AllByRecursion AreTables l.all.items;
}
