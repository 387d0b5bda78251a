use Rattle.std.proofs.Common.{rules, ◌≡◌, ◌-◌, ℕ, List, min, ap₂, ◌∙◌}
use Rattle.box_format.specs.Parts.{BoxSeen}
use Rattle.segment_crew.specs.Worth.{workers_of}
use Rattle.range_read.specs.RangeEnds.{stretch_between}
use Rattle.range_read.proofs.ready.prepare_range.Goals as goal

pub returns-clause-team : goal.returns-clause-team
returns-clause-team c =
    let count : c.segments_within-first.result.1 - c.segments_within-first.result.0
    ≡ (stretch_between c.in-Ok.scan c.args.from c.args.to).count = search rules in
    c.in_ok-crew.ensures.team
    ∙ ap₂ (λ (scans : List BoxSeen) (n : ℕ). min (workers_of scans n c.args.workers) n)
    c.file.ensures count
