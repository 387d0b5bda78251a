use Rattle.std.proofs.Common.{◌≡◌, ◌-◌, ◌++◌, length, take, drop, replicate, map, option_map}
use Rattle.jpeg_marker.specs.HeldTables.{table_in}
use Rattle.jpeg_marker.specs.Components.{no_component}
use Rattle.jpeg_marker.specs.Plans.{components_of, part_of}
use Rattle.jpeg_marker.proofs.scan.components.Given as goal

abbrev pub invariant-loop-i : goal.invariant-loop-i
invariant-loop-i l = record {
  size : length l.found ≡ 4;
  value : components_of (table_in l.tables) l.indexes l.parts l.selectors ≡ option_map (λ others. take l.i l.found ++ others) (components_of (table_in l.tables) (drop l.i l.indexes) (drop l.i l.parts) (drop l.i l.selectors));
  theirs : map part_of (take l.i l.found) ≡ take l.i l.parts;
  at : map (λ c. c.index) (take l.i l.found) ≡ take l.i l.indexes;
  blank : l.found ≡ take l.i l.found ++ replicate (4 - l.i) no_component;
}
