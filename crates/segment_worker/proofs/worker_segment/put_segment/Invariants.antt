use Rattle.std.proofs.Common.{◌≡◌, Some, false, true}
use Rattle.segment_code.specs.FileDecoding.{steps_left}
use Rattle.segment_worker.specs.OwnSegments.{IsSameSeat, OwesRest}
use Rattle.segment_worker.proofs.worker_segment.put_segment.Given as goal

abbrev pub invariant-loop-step : goal.invariant-loop-step
invariant-loop-step g l = record {
  same : IsSameSeat l.initial.seat l.seat;
  segment : l.seat.view.segment ≡ Some l.segment;
  going : l.seat.view.over ≡ false;
  here : l.seat.view.left ≡ l.initial.seat.view.left;
  running : l.decoder.running ≡ true;
  owes : OwesRest l.initial.seat.content l.segment l.seat.view.put l.decoder;
  begun : l.decoder.begun ≡ l.initial.decoder.begun;
  plans : l.decoder.plans ≡ l.initial.decoder.plans;
}

abbrev pub decreases-loop-step : goal.decreases-loop-step
decreases-loop-step g l = steps_left l.decoder
