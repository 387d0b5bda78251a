use Rattle.std.proofs.Common.{◌≤◌}
use Rattle.blob_store.specs.Journals.{AreBy}
use Rattle.store_run.specs.Answering.{IsSameCaller}
use Rattle.store_run.specs.TakesReplies.{TakesReplies}
use Rattle.store_run.specs.Turns.{IsServing}
use Rattle.store_run.proofs.run.serve.Given as goal

abbrev pub invariant-loop : goal.invariant-loop
invariant-loop g l = record {
  same : IsSameCaller l.initial.caller l.caller;
  source_lasting : g.S.Source.faults l.initial.source ≤ g.S.Source.faults l.source;
  sink_lasting : g.K.Sink.faults l.initial.sink ≤ g.K.Sink.faults l.sink;
  readable : g.S.Source.readable l.source;
  takes : TakesReplies g.K.Sink.takes (g.S.Source.left l.source) l.sink;
  serving : AreBy 0 l.caller.view.seen
      → IsServing g.S.Source.left g.K.Sink.held g.S.Source.faults g.S.Source.full g.K.Sink.faults g.K.Sink.full
      l.initial.source l.source l.initial.sink l.sink l.caller l.counter;
}
