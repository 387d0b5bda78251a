use Rattle.std.proofs.Common.{◌≡◌, false, take}
use Rattle.std.specs.List.{list_any}
use Rattle.jpeg_marker.specs.Plans.{is_coded}
use Rattle.jpeg_marker.proofs.scan.is_any_coded.Given as goal

abbrev pub invariant-loop-index : goal.invariant-loop-index
invariant-loop-index l = list_any (is_coded l.coded) (take l.index-index l.indexes) ≡ false
