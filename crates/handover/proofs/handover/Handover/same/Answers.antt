use Rattle.std.proofs.Common.{ap, ◌∙◌, sym}
use Rattle.std.specs.Cmp.Rules.{signed_items}
use Rattle.std.proofs.lemmas.Bool.Decides.{Decides-and, Decides-eqb}
use Rattle.handover.specs.Handovers.{HandoverFields}
use Rattle.handover.proofs.FieldBytes.{fields_same}
use Rattle.handover.proofs.handover.Handover.same.Goals as goal

pub returns : goal.returns
returns c =
    let h = c.args.self.now in
    let k = c.args.other.now in
    let d = Decides-and _ _ (Decides-eqb h.partial k.partial) (Decides-and _ _ (Decides-eqb h.bits k.bits) (Decides-and _ _ (signed_items h.preds k.preds) (Decides-eqb h.restarts k.restarts))) in (
      λ t. let e = d.0 (sym c.eq.ensures ∙ t) in fields_same h k e.0 e.1.0 e.1.1.0 e.1.1.1,
      λ e. c.eq.ensures ∙ d.1 (ap (λ (x : HandoverFields). x.partial) e, (ap (λ (x : HandoverFields). x.bits) e, (ap (λ (x : HandoverFields). x.preds) e, ap (λ (x : HandoverFields). x.restarts) e))),
    )
