use Rattle.std.proofs.Common.{◌≡◌, ◌-◌, ◌++◌, map, get_or}
use Rattle.std.specs.Prelude.{Some}
use Rattle.std.specs.List.{range_with_len}
use Rattle.handover.specs.Handovers.{start}
use Rattle.cut_spec.specs.Cuts.{row_of}
use Rattle.box_format.specs.Parts.{box_cut}
use Rattle.chunk_cut.specs.Found.{handovers_found}
use Rattle.chunk_cut.proofs.rows.handovers_of.Given as goal

abbrev pub invariant-loop-segment : goal.invariant-loop-segment
invariant-loop-segment l = record {
  all : l.handovers.items
      ++ map (λ i. get_or l.starts.handovers (row_of (box_cut l.plan (Some l.chunk) l.count) i) start)
      (range_with_len l.segment (l.count - l.segment))
      ≡ handovers_found l.plan l.starts l.chunk l.count;
}
