-- View: how the tables of each component of the frame are kept (own).
use Rattle.std.specs.Prelude.{◌≡◌, List, length}
use Rattle.std.specs.List.{AllByRecursion}
use Rattle.huff_table.specs.BuiltCodes.{AreTables}
use Rattle.huff_table.specs.declared.plan_codes.ComponentCodes.{ComponentCodes}
use Rattle.huff_table.specs.declared.plan_codes.PlanCodes.TheInside.{Inside}

-- the components that there are
abbrev pub components_of : Inside → List ComponentCodes
components_of p = p.components.items

-- there are four, each with two tables
pub record AreComponents (p : Inside) : Type 0 where
  pub four : length p.components.items ≡ 4
  pub tables : AllByRecursion AreTables p.components.items
