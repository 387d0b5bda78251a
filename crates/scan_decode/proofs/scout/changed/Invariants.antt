use Rattle.std.proofs.Common.{◌≡◌, length}
use Rattle.std.specs.List.{All}
use Rattle.scan_decode.specs.Excerpts.{AreAnywhere, IsChange}
use Rattle.scan_decode.proofs.scout.changed.Given as goal

abbrev pub invariant-loop : goal.invariant-loop
invariant-loop l = record {
  bytes : l.input.bytes ≡ l.initial.input.bytes;
  four : length l.change ≡ 4;
  change : All IsChange l.change;
  are : AreAnywhere l.counter l.tables l.initial.input.bytes l.initial.input.cursor l.input.cursor l.change;
}
