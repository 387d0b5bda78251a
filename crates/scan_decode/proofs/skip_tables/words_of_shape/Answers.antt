use Rattle.std.proofs.Common.{List, map, subst}
use Rattle.scan_spec.specs.declared.slot.Slot.{Slot}
use Rattle.scan_decode.specs.SkipWords.{AreSkipSlots}
use Rattle.scan_decode.proofs.skip_tables.words_of_shape.Goals as goal

pub returns : goal.returns
returns c = subst (λ (slots : List Slot). AreSkipSlots slots (map (λ v. v.items) c.make_skips.new.skips.items)) c.slots.ensures.slots c.make_skips.ensures
