use Rattle.std.proofs.Common.{◌≡◌, ◌+◌, ◌*◌, ◌≤◌}
use Rattle.box_format.specs.Fields.{raws_as}
use Rattle.box_format.specs.Checks.{segments_of}
use Rattle.box_format.proofs.RawParts.{raws_from}
use Rattle.box_format.proofs.checks.segments_in.Given as goal

abbrev pub invariant-loop-scan : goal.invariant-loop-scan
invariant-loop-scan l = record {
  left : l.count + segments_of (raws_from l.version l.bytes l.scan) ≡ segments_of (raws_as l.version l.bytes);
  few : l.count ≤ 255 * l.scan;
}
