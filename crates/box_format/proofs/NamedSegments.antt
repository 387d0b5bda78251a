-- How many segments a container has, by its fields.
use Rattle.std.proofs.Common.{◌≡◌, ℕ, List, sym, ap, ◌∙◌}
use Rattle.jpeg_marker.specs.FirstWalks.{opening_walk}
use Rattle.box_format.specs.Versions.{decoded}
use Rattle.box_format.specs.Parts.{BoxSeen}
use Rattle.box_format.specs.Containers.{IsContainer, all_plans, segment_count}
use Rattle.box_format.specs.Fields.{raws_of}
use Rattle.box_format.specs.Checks.{segments_of}
use Rattle.box_format.proofs.Layouts.{all_read}
use Rattle.box_format.proofs.ScansSound.{segments_same}
use Rattle.box_format.proofs.Spelling.{checked}

pub segments_named : (scans : List BoxSeen) (bytes : List ℕ) → IsContainer scans bytes
    → segments_of (raws_of bytes) ≡ segment_count scans
segments_named scans bytes is =
    let passes = checked decoded is.0 scans bytes (all_read is.0) is.1 in
    sym (segments_same opening_walk (all_plans scans) (raws_of bytes) passes.0.headers)
    ∙ ap segment_count passes.1
