use Rattle.std.proofs.Common.{subst}
use Rattle.box_format.specs.Parts.{IsScanBox, BoxSeen}
use Rattle.box_format.proofs.view.BoxView.plan.Goals as goal

pub returns-clause-sound : goal.returns-clause-sound
returns-clause-sound c =
    subst (λ (s : BoxSeen). IsScanBox s.plan s.parts) c.self.view_is c.self.invariant.scan
