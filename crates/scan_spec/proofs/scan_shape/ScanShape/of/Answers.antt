use Rattle.std.proofs.Common.{◌≡◌, length, map, ap, ap₂, ◌∙◌, take, ℕ, List, arith}
use Rattle.jpeg_marker.proofs.Choices.{rising_is}
use Rattle.huff_table.specs.declared.plan_codes.ComponentCodes.{ComponentCodes}
use Rattle.scan_spec.specs.Slots.{shape_of}
use Rattle.scan_spec.specs.ShapeInside.{slot_in, component_indexes}
use Rattle.scan_spec.proofs.ShapeLemmas.{slots_by_index, slots_within, shape_is}
use Rattle.scan_spec.proofs.scan_shape.ScanShape.of.Goals as goal

pub invariant_of-result : goal.invariant_of-result
invariant_of-result c =
    let e : take c.blocks_of-blocks.result.1 c.blocks_of-blocks.result.0 ≡ component_indexes c.args.plan.now.components =
    c.blocks_of-blocks.ensures.indexes ∙ ap component_indexes c.components.ensures.value in
    let size : length c.args.codes ≡ 4 = ap length c.requires in
    record {
      few = omega (arith, size);
      blocks = c.blocks_of-blocks.ensures.count;
      within = rw (e, size) (slots_within c.args.plan.now.components (rising_is 0 4 _ c.components.ensures.kept.indexes));
    }

pub returns : goal.returns
returns c =
    let e : take c.blocks_of-blocks.result.1 c.blocks_of-blocks.result.0 ≡ component_indexes c.args.plan.now.components =
    c.blocks_of-blocks.ensures.indexes ∙ ap component_indexes c.components.ensures.value in
    let slots : map (slot_in c.args.codes) (take c.blocks_of-blocks.result.1 c.blocks_of-blocks.result.0) ≡ (shape_of c.args.plan.now).slots =
    ap₂ (λ (codes : List ComponentCodes) (indexes : List ℕ). map (slot_in codes) indexes) c.requires e
    ∙ slots_by_index c.args.plan.now.components (rising_is 0 4 _ c.components.ensures.kept.indexes) in
    shape_is _ _ _ _ _ _ slots c.mcus.ensures.value (c.from.ensures ∙ c.interval.ensures)
