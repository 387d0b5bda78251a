use Rattle.box_format.proofs.Sound.{sound_is}
use Rattle.box_format.proofs.starts.is_start.Goals as goal

pub returns-then-restarts-eq0-clause-sound : goal.returns-then-restarts-eq0-clause-sound
returns-then-restarts-eq0-clause-sound c =
    sound_is c.args.handover.now _ _ _ c.partial-partial.ensures.value c.bits-bits.ensures.value
    c.preds-preds.ensures.value c.bits-bits.ensures.few
    c.partial-partial.ensures.blank c.preds-preds.ensures.range

pub returns-else-restarts-eq0-clause-sound : goal.returns-else-restarts-eq0-clause-sound
returns-else-restarts-eq0-clause-sound c =
    sound_is c.args.handover.now _ _ _ c.partial-partial.ensures.value c.bits-bits.ensures.value
    c.preds-preds.ensures.value c.bits-bits.ensures.few
    c.partial-partial.ensures.blank c.preds-preds.ensures.range
