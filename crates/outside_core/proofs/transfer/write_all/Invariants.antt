use Rattle.std.proofs.Common.{◌≡◌, ◌-◌, ◌≤◌, length, take, drop}
use Rattle.std.specs.Io.KnownBytes.{Appends}
use Rattle.outside_core.specs.Takes.{MovesOn, TakesNext}
use Rattle.outside_core.proofs.transfer.write_all.Given as goal

abbrev pub invariant-loop-written : goal.invariant-loop-written
invariant-loop-written g l =
    record {
      in_range : l.written ≤ length l.bytes;
      so_far : Appends (g.K.Sink.held l.initial.sink) (g.K.Sink.held l.sink) (take l.written l.bytes);
      next : TakesNext g.K.Sink.takes l.sink (drop l.written l.bytes);
      onward : MovesOn g.K.Sink.takes l.initial.sink l.sink (take l.written l.bytes);
      unfailed : g.K.Sink.faults l.sink ≡ g.K.Sink.faults l.initial.sink;
    }

abbrev pub decreases-loop-written : goal.decreases-loop-written
decreases-loop-written g l = length l.bytes - l.written
