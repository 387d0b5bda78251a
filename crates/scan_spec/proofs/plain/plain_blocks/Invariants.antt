use Rattle.std.proofs.Common.{◌≡◌, ◌≤◌, [], drop, length, unsigned_abs}
use Rattle.std.specs.List.{All}
use Rattle.scan_spec.specs.Blocks.{blocks_text}
use Rattle.scan_spec.specs.PlainWriting.{HasPutPrefix}
use Rattle.scan_spec.proofs.plain.plain_blocks.Given as goal

abbrev pub invariant-loop-i : goal.invariant-loop-i
invariant-loop-i l = record {
  size : length l.last ≡ 4;
  small : All (λ dc. unsigned_abs dc ≤ 32767) l.last;
  goes : HasPutPrefix (blocks_text l.slots l.fn.before l.blocks) [] l.bits.items (blocks_text (drop l.i l.slots) l.last (drop l.i l.blocks));
}
