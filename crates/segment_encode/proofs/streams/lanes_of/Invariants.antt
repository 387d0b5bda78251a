use Rattle.std.proofs.Common.{◌≡◌, ◌+◌, ◌-◌, Bool, List}
use Rattle.std.specs.Prelude.{flat_map}
use Rattle.scan_spec.specs.Scans.{Mcu}
use Rattle.cut_spec.specs.Cuts.{first_mcu}
use Rattle.cut_spec.specs.RowHandovers.{mcus_between}
use Rattle.box_format.specs.Parts.{box_cut}
use Rattle.container_spec.specs.ScanStream.{stream_of}
use Rattle.segment_code.specs.FileStarts.{starts_of}
use Rattle.segment_code.specs.Starting.{IsFileAt}
use Rattle.segment_encode.specs.Lanes.{GiveEach, parts_in}
use Rattle.segment_encode.proofs.NewLanes.{LanesUpTo}
use Rattle.segment_encode.proofs.streams.lanes_of.Given as goal

abbrev pub invariant-loop-first : goal.invariant-loop-first
invariant-loop-first l = record {
  so_far : LanesUpTo l.count l.each l.first l.lanes.items;
  streams : (mcus : List Mcu) (pads : List Bool)
      → IsFileAt l.bytes l.plan mcus pads l.starts.trailer
      → l.starts ≡ starts_of l.plan mcus pads l.starts.trailer l.plan.down
      → GiveEach (λ i. stream_of l.plan (mcus_between mcus (first_mcu (box_cut l.plan l.chunk l.count) i)
      (first_mcu (box_cut l.plan l.chunk l.count) (i + 1)))) 0 (flat_map parts_in l.lanes.items);
}

abbrev pub decreases-loop-first : goal.decreases-loop-first
decreases-loop-first l = l.count - l.first
