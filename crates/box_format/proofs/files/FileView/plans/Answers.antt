use Rattle.std.proofs.Common.{ℕ, List, map, take, sym, ap, ◌∙◌}
use Rattle.jpeg_marker.specs.Plans.{PlanFields}
use Rattle.box_format.specs.Parts.{BoxSeen}
use Rattle.box_format.specs.Fields.{raws_as}
use Rattle.box_format.proofs.FilesViewed.{plans_back}
use Rattle.box_format.proofs.files.FileView.plans.Goals as goal

pub returns : goal.returns
returns c =
    let i = c.self.inside in
    ap (λ (l : List PlanFields). take c.from.result l) c.deref.ensures.value
    ∙ ap (λ (n : ℕ). take n i.plans.items) c.from.ensures
    ∙ sym (plans_back (take i.count i.plans.items) (raws_as i.version i.bytes.now) c.self.invariant.passed)
    ∙ ap (λ (l : List BoxSeen). map (λ (s : BoxSeen). s.plan) l) c.self.view_is
