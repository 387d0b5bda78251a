use Rattle.segment_worker.specs.Contents.{stretch}
use Rattle.segment_worker.specs.Working.{IsIdle}
use Rattle.segment_worker.proofs.worker.work.Given as goal

abbrev pub invariant-loop : goal.invariant-loop
invariant-loop g l = IsIdle l.board (stretch l.view l.first l.count) l.seat l.decoder
