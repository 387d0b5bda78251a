use Rattle.std.proofs.Common.{◌++◌, List, drop}
use Rattle.lepton_encode.specs.ScansMade.{AreCoded}
use Rattle.lepton_encode.specs.declared.container.CodedScan.{CodedScan}
use Rattle.lepton_encode.proofs.HeadsFound.{AreLeft}
use Rattle.lepton_encode.proofs.scans.code_scans.Given as goal

abbrev pub invariant-loop-head : goal.invariant-loop-head
invariant-loop-head g l = record {
  left : AreLeft l.bytes (drop l.head-index l.heads);
  coded : (later : List CodedScan)
      → AreCoded l.share l.bytes (drop l.head-index l.heads) later
      → AreCoded l.share l.bytes l.heads (l.coded.items ++ later);
}
