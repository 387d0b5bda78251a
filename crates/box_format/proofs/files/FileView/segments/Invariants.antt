use Rattle.std.proofs.Common.{◌≡◌, ◌+◌, drop}
use Rattle.box_format.specs.Containers.{segment_count}
use Rattle.box_format.proofs.files.FileView.segments.Given as goal

abbrev pub invariant-loop-scan : goal.invariant-loop-scan
invariant-loop-scan l = l.count + segment_count (drop l.scan l.self) ≡ segment_count l.self
