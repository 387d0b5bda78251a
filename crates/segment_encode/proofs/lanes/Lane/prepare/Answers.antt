use Rattle.std.proofs.Common.{rules, refl}
use Rattle.segment_encode.proofs.CodedParts.{all_can}
use Rattle.segment_encode.proofs.lanes.Lane.prepare.Goals as goal

pub returns-clause-new : goal.returns-clause-new
returns-clause-new c = record {
  ready = all_can c.in_ok-encoder.encoder c.args.plan.now c.args.parts.items
      c.in_ok-encoder.ensures c.requires.ready c.requires.plan;
  none = c.in_ok-streams.ensures.items;
  room = let capacity = c.in_ok-streams.ensures.capacity in search rules;
  fine = refl;
}
