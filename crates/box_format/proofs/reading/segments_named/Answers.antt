use Rattle.std.proofs.Common.{ap, ◌∙◌}
use Rattle.box_format.specs.Checks.{segments_of}
use Rattle.box_format.specs.Fields.{raws_as}
use Rattle.box_format.specs.declared.version.Version.{Version}
use Rattle.box_format.proofs.NamedSegments.{segments_named as named}
use Rattle.box_format.proofs.reading.segments_named.Goals as goal

pub returns : goal.returns
returns c = λ scans is.
    c.segments_in.ensures
    ∙ ap (λ (v : Version). segments_of (raws_as v c.args.bytes.now)) c.version_in.ensures
    ∙ named scans c.args.bytes.now is
