use Rattle.std.proofs.Common.{◌≡◌, ◌+◌, Bool, List, length}
use Rattle.std.specs.Prelude.{All}
use Rattle.scan_spec.specs.Scans.{Mcu}
use Rattle.cut_spec.specs.Cuts.{first_mcu}
use Rattle.cut_spec.specs.RowHandovers.{mcus_between}
use Rattle.box_format.specs.Parts.{box_cut}
use Rattle.container_spec.specs.ScanStream.{stream_of}
use Rattle.segment_code.specs.FileStarts.{starts_of}
use Rattle.segment_code.specs.ReadyParts.{IsReady}
use Rattle.segment_code.specs.Starting.{IsFileAt}
use Rattle.segment_encode.specs.Lanes.{AreOfAFile, GiveEach}
use Rattle.segment_encode.proofs.streams.lane_of.Given as goal

abbrev pub invariant-loop-segment : goal.invariant-loop-segment
invariant-loop-segment l = record {
  ready : All IsReady l.parts.items;
  plan : All (λ r. r.part.plan ≡ l.plan) l.parts.items;
  file : AreOfAFile l.parts.items;
  long : l.fn.segments.start + length l.parts.items ≡ l.segment;
  streams : (mcus : List Mcu) (pads : List Bool)
      → IsFileAt l.bytes l.plan mcus pads l.starts.trailer
      → l.starts ≡ starts_of l.plan mcus pads l.starts.trailer l.plan.down
      → GiveEach (λ i. stream_of l.plan (mcus_between mcus (first_mcu (box_cut l.plan l.chunk l.count) i)
      (first_mcu (box_cut l.plan l.chunk l.count) (i + 1)))) l.fn.segments.start l.parts.items;
}
