use Rattle.std.proofs.Common.{◌≡◌, ◌++◌, drop, map}
use Rattle.box_format.specs.Parts.{records}
use Rattle.box_format.specs.Given.{parts_given}
use Rattle.box_format.proofs.writing.put_records.Given as goal

abbrev pub invariant-loop-i : goal.invariant-loop-i
invariant-loop-i l =
    let places = (parts_given l.parts).places in
    l.bytes.items ++ records places l.i (drop l.i l.parts.handovers.now)
    (map (λ v. v.items) (drop l.i l.parts.streams.now))
    ≡ l.fn.bytes.items ++ records places 0 l.parts.handovers.now
    (map (λ v. v.items) l.parts.streams.now)
