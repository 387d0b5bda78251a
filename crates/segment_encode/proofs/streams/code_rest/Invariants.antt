use Rattle.std.proofs.Common.{map}
use Rattle.segment_code.specs.ReadyParts.{IsEncoderFor}
use Rattle.segment_encode.specs.StreamsFound.{HasPassedOn}
use Rattle.segment_encode.proofs.StreamsPassed.{AreSoFar}
use Rattle.segment_encode.proofs.streams.code_rest.Given as goal

abbrev pub invariant-loop : goal.invariant-loop
invariant-loop l = record {
  on : HasPassedOn l.counter l.initial.pass l.pass;
  encoder : IsEncoderFor l.initial.pass.plan l.encoder;
  streams : AreSoFar l.counter l.initial.pass (map (λ v. v.items) l.streams.items);
}
