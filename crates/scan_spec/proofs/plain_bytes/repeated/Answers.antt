use Rattle.std.proofs.Common.{List, ◌++◌, sym, ap, ◌∙◌}
use Rattle.scan_spec.specs.declared.slot.Slot.{Slot}
use Rattle.scan_spec.proofs.PlainTurns.{times_more}
use Rattle.scan_spec.proofs.plain_bytes.repeated.Goals as goal

pub loop-i-preserved : goal.loop-i-preserved
loop-i-preserved c =
    let slots = c.args.slots.now in
    c.in_ok-put_slots.ensures ∙ ap (λ (all : List Slot). all ++ slots) c.loop-i.invariant ∙ sym (times_more c.loop-i.i slots)
