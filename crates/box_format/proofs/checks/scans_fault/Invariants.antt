use Rattle.std.proofs.Common.{◌≡◌, ◌+◌, drop}
use Rattle.box_format.specs.Fields.{raws_as}
use Rattle.box_format.specs.Checks.{scans_fault, segments_of}
use Rattle.box_format.proofs.RawParts.{raws_from}
use Rattle.box_format.proofs.checks.scans_fault.Given as goal

abbrev pub invariant-loop-scan : goal.invariant-loop-scan
invariant-loop-scan l = record {
  count : l.first + segments_of (raws_from l.version l.bytes l.scan) ≡ segments_of (raws_as l.version l.bytes);
  left : scans_fault l.first (drop l.scan l.plans) (raws_from l.version l.bytes l.scan)
      ≡ scans_fault 0 l.plans (raws_as l.version l.bytes);
}
