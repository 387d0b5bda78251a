use Rattle.std.proofs.Common.{◌≡◌, ◌++◌, drop}
use Rattle.std.specs.Prelude.{option_map}
use Rattle.box_format.specs.Parts.{records}
use Rattle.box_format.proofs.converting.put_records.Given as goal

abbrev pub invariant-loop-i : goal.invariant-loop-i
invariant-loop-i l =
    let places = option_map (λ all. all.now) l.places in
    l.bytes.items ++ records places l.i (drop l.i l.view.parts.handovers)
    (drop l.i l.view.parts.streams)
    ≡ l.fn.bytes.items ++ records places 0 l.view.parts.handovers l.view.parts.streams
