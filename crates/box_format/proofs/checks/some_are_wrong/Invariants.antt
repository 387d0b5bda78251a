use Rattle.std.proofs.Common.{◌≡◌, drop}
use Rattle.box_format.specs.Versions.{layout_of}
use Rattle.box_format.specs.Fields.{raws_as}
use Rattle.box_format.specs.Checks.{some_are_wrong}
use Rattle.box_format.proofs.RawParts.{raws_from}
use Rattle.box_format.proofs.checks.some_are_wrong.Given as goal

abbrev pub invariant-loop-scan : goal.invariant-loop-scan
invariant-loop-scan l =
    some_are_wrong (layout_of l.version).most (drop l.scan l.plans) (raws_from l.version l.bytes l.scan)
    ≡ some_are_wrong (layout_of l.version).most l.plans (raws_as l.version l.bytes)
