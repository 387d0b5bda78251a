use Rattle.std.proofs.Common.{◌≡◌, ◌≤◌, ◌+◌, ◌*◌, map, drop, length, unsigned_abs}
use Rattle.std.specs.List.{All}
use Rattle.scan_spec.specs.Blocks.{blocks_text, dcs_after}
use Rattle.scan_spec.specs.ShapeInside.{slot_in}
use Rattle.scan_write.specs.Outputs.{output_with}
use Rattle.scan_spec.specs.TextBounds.{quarters, block_bits}
use Rattle.scan_write.specs.Appending.{HasAppended}
use Rattle.scan_write.proofs.blocks.blocks.Given as goal

abbrev pub invariant-loop-i : goal.invariant-loop-i
invariant-loop-i l = record {
  four : length l.before ≡ 4;
  small : All (λ dc. unsigned_abs dc ≤ 32767) l.before;
  spent : quarters l.output l.out ≤ block_bits * l.i + quarters l.fn.output l.fn.out;
  dcs : dcs_after (map (slot_in l.codes) (drop l.i l.slots)) l.before (drop l.i l.mcu) ≡ dcs_after (map (slot_in l.codes) l.slots) l.fn.before l.mcu;
  going : HasAppended (blocks_text (map (slot_in l.codes) l.slots) l.fn.before l.mcu) (output_with l.fn.output l.fn.out) (output_with l.output l.out)
      (blocks_text (map (slot_in l.codes) (drop l.i l.slots)) l.before (drop l.i l.mcu));
}
