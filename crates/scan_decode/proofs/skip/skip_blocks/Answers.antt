use Rattle.std.proofs.Common.{map, sym, subst}
use Rattle.scan_spec.specs.ShapeInside.{slot_in}
use Rattle.scan_decode.specs.SkipWords.{AreSkipSlots}
use Rattle.scan_decode.proofs.skip.skip_blocks.Goals as goal
use Rattle.scan_decode.proofs.skip.skip_blocks.Goals.{then-is_empty, else-is_empty}

pub skip_blocks_by-requires-clause-skips : goal.skip_blocks_by-requires-clause-skips
skip_blocks_by-requires-clause-skips c =
    let slots = map (slot_in c.args.codes.now) c.args.slots.now in
    let known : AreSkipSlots slots (map (λ v. v.items) c.if-is_empty.skips.items) = elim c.if-is_empty.branch [
      | then-is_empty w ↦ subst (λ x. AreSkipSlots slots (map (λ v. v.items) x.items)) (sym w.skips-is) w.make_skips.ensures
      | else-is_empty w ↦ subst (λ x. AreSkipSlots slots (map (λ v. v.items) x.items)) (sym w.skips-is) c.requires.skips
    ] in
    subst (λ xs. AreSkipSlots slots (map (λ v. v.items) xs)) (sym c.as_slice.ensures.value) known

pub returns-clause-skips : goal.returns-clause-skips
returns-clause-skips c =
    let slots = map (slot_in c.args.codes.now) c.args.slots.now in
    elim c.if-is_empty.branch [
      | then-is_empty w ↦ subst (λ x. AreSkipSlots slots (map (λ v. v.items) x.items)) (sym w.skips-is) w.make_skips.ensures
      | else-is_empty w ↦ subst (λ x. AreSkipSlots slots (map (λ v. v.items) x.items)) (sym w.skips-is) c.requires.skips
    ]
