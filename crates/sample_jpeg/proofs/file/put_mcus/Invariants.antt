use Rattle.std.proofs.Common.{◌≡◌, []}
use Rattle.sample_jpeg.proofs.DrawnTurns.{IsAt}
use Rattle.sample_jpeg.proofs.file.put_mcus.Given as goal

abbrev pub invariant-loop : goal.invariant-loop
invariant-loop l = record {
  empty : l.piece ≡ [];
  at : IsAt l.mcus l.initial.draws.state l.initial.writer l.initial.file.items l.counter l.draws.state l.writer
      l.file.items;
}
