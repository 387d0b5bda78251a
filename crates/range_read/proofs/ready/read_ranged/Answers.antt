use Rattle.std.proofs.Common.{◌≡◌, ◌∙◌, true, ap, sym}
use Rattle.box_format.specs.Parts.{BoxSeen}
use Rattle.container_spec.specs.RangeMeanings.{is_bad_range}
use Rattle.range_read.proofs.ready.read_ranged.Goals as goal

pub returns-then-is_bad_range-clause-bad : goal.returns-then-is_bad_range-clause-bad
returns-then-is_bad_range-clause-bad c = λ bad.
    let scan = c.in-Ok.scan in
    let is : is_bad_range scan.parts c.args.from c.args.to ≡ true =
    ap (λ (s : BoxSeen). is_bad_range s.parts c.args.from c.args.to) (sym c.view.ensures)
    ∙ sym c.is_bad_range.ensures ∙ c.if-is_bad_range.true in
    (scan.plan, scan.parts, c.in-Ok.ensures.taken, c.in-Ok.ensures.version, is)
