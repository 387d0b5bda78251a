use Rattle.std.proofs.Common.{◌≡◌, ◌&&◌, Bool, true, false, List, ℕ, refl, ap, ◌∙◌}
use Rattle.handover.specs.HandoverBytes.{handover_in, is_handover}
use Rattle.box_format.specs.Raws.{handover_from}
use Rattle.box_format.proofs.starts.can_start_at.Goals as goal

first_fails : (a b : Bool) → (a ≡ true → ⊥) → false ≡ (a && b)
first_fails true b f = absurd (f refl)
first_fails false b f = refl

pub returns-in-None : goal.returns-in-None
returns-in-None c =
    first_fails (is_handover (handover_from c.args.records.now c.args.place)) _
    (λ e. c.in-None.ensures.none
    (ap (λ (l : List ℕ). is_handover (handover_in l)) c.record_at.ensures ∙ e))
