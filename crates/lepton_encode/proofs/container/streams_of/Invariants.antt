use Rattle.std.proofs.Common.{◌≡◌, ◌++◌, flat_map, map}
use Rattle.lepton_encode.specs.ScansMade.{streams_in}
use Rattle.lepton_encode.proofs.container.streams_of.Given as goal

abbrev pub invariant-loop-scan : goal.invariant-loop-scan
invariant-loop-scan l =
    flat_map (λ stream. stream) (map (λ v. v.items) l.streams.items) ++ flat_map streams_in l.scan-iterator.rest.items
    ≡ flat_map streams_in l.fn.coded.items
