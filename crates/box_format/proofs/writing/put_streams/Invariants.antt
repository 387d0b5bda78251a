use Rattle.std.proofs.Common.{◌≡◌, ◌++◌, drop, map, flat_map}
use Rattle.box_format.proofs.writing.put_streams.Given as goal

abbrev pub invariant-loop-stream : goal.invariant-loop-stream
invariant-loop-stream l =
    l.bytes.items ++ flat_map (λ stream. stream)
    (map (λ v. v.items) (drop l.stream-index l.streams))
    ≡ l.fn.bytes.items ++ flat_map (λ stream. stream) (map (λ v. v.items) l.streams)
