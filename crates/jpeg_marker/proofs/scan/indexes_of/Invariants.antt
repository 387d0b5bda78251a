use Rattle.std.proofs.Common.{◌≡◌, ◌≤◌, ◌++◌, length, take, drop, option_map}
use Rattle.jpeg_marker.specs.Plans.{indexes_from}
use Rattle.jpeg_marker.proofs.scan.indexes_of.Given as goal

abbrev pub invariant-loop-index : goal.invariant-loop-index
invariant-loop-index l = record {
  size : length l.indexes ≡ 4;
  few : l.found ≤ length l.selectors;
  value : indexes_from 0 l.parts l.selectors ≡ option_map (λ others. take l.found l.indexes ++ others) (indexes_from l.index (drop l.index l.parts) (drop l.found l.selectors));
}
