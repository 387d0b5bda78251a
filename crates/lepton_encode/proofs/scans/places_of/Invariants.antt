use Rattle.std.proofs.Common.{◌≡◌, ◌-◌, ◌++◌, map, get_or}
use Rattle.std.specs.List.{range_with_len}
use Rattle.lepton_encode.proofs.scans.places_of.Given as goal

abbrev pub invariant-loop-segment : goal.invariant-loop-segment
invariant-loop-segment l = record {
  all : l.places.items
      ++ map (λ i. get_or l.starts.places i 0) (range_with_len l.segment (l.segments - l.segment))
      ≡ map (λ i. get_or l.starts.places i 0) (range_with_len 0 l.segments);
}
