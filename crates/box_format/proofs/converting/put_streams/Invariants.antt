use Rattle.std.proofs.Common.{◌≡◌, ◌++◌, drop, flat_map}
use Rattle.box_format.proofs.converting.put_streams.Given as goal

abbrev pub invariant-loop-i : goal.invariant-loop-i
invariant-loop-i l =
    l.bytes.items ++ flat_map (λ stream. stream) (drop l.i l.view.parts.streams)
    ≡ l.fn.bytes.items ++ flat_map (λ stream. stream) l.view.parts.streams
