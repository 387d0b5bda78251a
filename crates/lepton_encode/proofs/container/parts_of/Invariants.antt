use Rattle.std.proofs.Common.{◌≡◌, ◌++◌, drop, map}
use Rattle.box_format.specs.Given.{parts_given}
use Rattle.lepton_encode.specs.ScansMade.{AreWithin, scans_made}
use Rattle.lepton_encode.proofs.container.parts_of.Given as goal

abbrev pub invariant-loop-i : goal.invariant-loop-i
invariant-loop-i l = record {
  within : AreWithin l.bytes (drop l.i l.heads) (drop l.i l.coded);
  made : map parts_given l.parts.items
      ++ scans_made l.version l.bytes (drop l.i l.heads) (drop l.i l.coded)
      ≡ scans_made l.version l.bytes l.heads l.coded;
}
