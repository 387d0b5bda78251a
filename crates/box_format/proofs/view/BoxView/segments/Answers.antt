use Rattle.std.specs.Prelude.{◌≤◌}
use Rattle.std.proofs.Common.{length, sym, ap, subst, ◌∙◌, arith}
use Rattle.box_format.specs.Versions.{layout_of}
use Rattle.box_format.specs.Parts.{BoxSeen}
use Rattle.box_format.proofs.Layouts.{most_more}
use Rattle.box_format.proofs.Sliced.{handovers_long}
use Rattle.box_format.proofs.view.BoxView.segments.Goals as goal

pub returns-clause-count : goal.returns-clause-count
returns-clause-count c =
    let i = c.self.inside in
    sym (handovers_long i.version i.segments i.records.now)
    ∙ ap (λ (s : BoxSeen). length s.parts.handovers) c.self.view_is

pub returns-clause-streams : goal.returns-clause-streams
returns-clause-streams c =
    let i = c.self.inside in
    sym (c.self.invariant.scan.1.streams ∙ handovers_long i.version i.segments i.records.now)
    ∙ ap (λ (s : BoxSeen). length s.parts.streams) c.self.view_is

pub returns-clause-of_version : goal.returns-clause-of_version
returns-clause-of_version c =
    let i = c.self.inside in
    subst (λ (s : BoxSeen). i.segments ≤ (layout_of s.parts.version).most) c.self.view_is
    (subst (λ n. n ≤ (layout_of i.version).most)
    (handovers_long i.version i.segments i.records.now) c.self.invariant.scan.1.few)

pub returns-clause-few : goal.returns-clause-few
returns-clause-few c =
    let i = c.self.inside in
    let more = most_more i.version in
    let few = c.self.invariant.scan.1.few in
    let count = handovers_long i.version i.segments i.records.now in
    omega (arith, more, few, count)
