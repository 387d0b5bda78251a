-- The slots of a plan's scan are as many as the blocks of an MCU of its grid.
use Rattle.std.proofs.Common.{◌≡◌, length, sym, ◌∙◌}
use Rattle.coef_block.specs.BlockRows.{block_count}
use Rattle.jpeg_marker.specs.Plans.{PlanFields, IsPlan}
use Rattle.jpeg_marker.proofs.Choices.{rising_is}
use Rattle.scan_spec.specs.Slots.{slots_of}
use Rattle.scan_spec.proofs.PlanShapes.{slots_count}
use Rattle.container_spec.specs.ScanStream.{mcu_extents}
use Rattle.container_spec.proofs.PlanGrids.{counted}

pub slots_of_grid : (plan : PlanFields) → IsPlan plan → length (slots_of plan.components) ≡ block_count (mcu_extents plan.components)
slots_of_grid plan is =
    slots_count plan.components is.some
    ∙ sym (counted plan.components is.some (rising_is 0 4 _ is.indexes))
