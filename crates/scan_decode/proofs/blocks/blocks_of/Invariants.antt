use Rattle.std.proofs.Common.{◌≡◌, ◌≤◌, take, drop, map, length, unsigned_abs}
use Rattle.std.specs.List.{All}
use Rattle.scan_spec.specs.ScanReading.{blocks_at}
use Rattle.scan_spec.specs.BlockBits.{in_zigzag}
use Rattle.scan_spec.specs.ShapeInside.{slot_in}
use Rattle.scan_decode.specs.McuBlocks.{after_prefix}
use Rattle.scan_decode.proofs.blocks.blocks_of.Given as goal

abbrev pub invariant-loop-i : goal.invariant-loop-i
invariant-loop-i l = record {
  bytes : l.input.bytes ≡ l.fn.input.bytes;
  long : length l.out ≡ length l.slots;
  four : length l.before ≡ 4;
  small : All (λ dc. unsigned_abs dc ≤ 32767) l.before;
  going : blocks_at (map (slot_in l.codes) l.slots) l.fn.before l.fn.input.bytes l.fn.input.cursor
      ≡ after_prefix (map in_zigzag (take l.i l.out)) (blocks_at (map (slot_in l.codes) (drop l.i l.slots)) l.before l.fn.input.bytes l.input.cursor);
}
