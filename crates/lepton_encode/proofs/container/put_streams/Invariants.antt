use Rattle.std.proofs.Common.{◌≡◌, ◌++◌, flat_map, map}
use Rattle.lepton_encode.proofs.container.put_streams.Given as goal

abbrev pub invariant-loop-stream : goal.invariant-loop-stream
invariant-loop-stream l =
    l.made.items ++ flat_map (λ stream. stream) (map (λ v. v.items) l.stream-iterator.rest.items)
    ≡ l.fn.made.items ++ flat_map (λ stream. stream) (map (λ v. v.items) l.fn.streams.items)
