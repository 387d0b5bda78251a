use Rattle.std.proofs.Common.{◌≡◌, ◌≤◌, List, length}
use Rattle.scan_spec.specs.Scans.{Mcu}
use Rattle.segment_code.specs.CodedMcus.{AreCoded}
use Rattle.segment_code.specs.FoundPads.{pads_through}
use Rattle.segment_code.proofs.segment_stream.code_mcus.Given as goal

abbrev pub invariant-loop : goal.invariant-loop
invariant-loop l = record {
  long : length l.blocks ≡ length l.reader.shape.slots;
  grid : l.segment.grid ≡ l.initial.segment.grid;
  room : 82744 ≤ length l.coder.bins.now;
  coded : (all : List Mcu) × AreCoded l.counter l.initial.reader l.reader l.initial.segment.grid
      l.segment l.initial.coder l.coder all;
  pads : l.pads ≡ pads_through l.counter l.initial.reader l.initial.pads;
}
