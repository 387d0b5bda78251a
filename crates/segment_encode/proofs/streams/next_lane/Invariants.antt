use Rattle.std.proofs.Common.{◌≡◌, length}
use Rattle.std.specs.Prelude.{All}
use Rattle.segment_code.specs.ReadyParts.{IsReady}
use Rattle.segment_encode.specs.StreamsFound.{ArePassed, HasPassedOn}
use Rattle.segment_encode.proofs.streams.next_lane.Given as goal

abbrev pub invariant-loop : goal.invariant-loop
invariant-loop l = record {
  on : HasPassedOn l.counter l.initial.pass l.pass;
  ready : All IsReady l.parts.items;
  plan : All (λ r. r.part.plan ≡ l.initial.pass.plan) l.parts.items;
  long : length l.parts.items ≡ l.counter;
  passed : ArePassed l.initial.pass l.parts.items;
}
