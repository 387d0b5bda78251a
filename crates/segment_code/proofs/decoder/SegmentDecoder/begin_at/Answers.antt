use Rattle.std.proofs.Common.{◌≡◌, ◌+◌, ◌*◌, true, refl, ap, subst, ◌∙◌}
use Rattle.jpeg_marker.specs.Plans.{PlanFields}
use Rattle.scan_spec.specs.Pads.{pads_given}
use Rattle.scan_spec.specs.Slots.{shape_of}
use Rattle.cut_spec.specs.HandedOver.{writer_from}
use Rattle.container_spec.specs.ScanStream.{grid_of}
use Rattle.segment_code.specs.Decoding.{DecoderSeen}
use Rattle.segment_code.specs.DecoderInside.{decoder_of}
use Rattle.segment_code.proofs.SegmentsBegun.{stands_first}
use Rattle.segment_code.proofs.decoder.SegmentDecoder.begin_at.Goals as goal

pub returns-clause-stands : goal.returns-clause-stands
returns-clause-stands c =
    let same = ap (λ (d : DecoderSeen). d.plan) c.self.view_is in
    let new : DecoderSeen = record (decoder_of c.self.inside) {
      begun = c.self.inside.begun + 1;
      running = true;
      number = c.args.number;
      left = c.args.count;
      next = c.args.met.0;
      kept = c.args.met.1;
      given = 0;
      started = c.open-self-inside.result;
      coder = c.open-self-inside.new.coder;
      segment = c.restart.new.self;
      writer = c.move_to.new.self;
    } in
    stands_first new c.args.self.now.plan c.args.number c.args.stream.now c.args.handover c.args.row
    c.args.count c.args.met.0 c.args.met.1 (pads_given c.args.pads) (record {
      suits = c.requires.suits;
      some = c.requires.some;
      within = c.requires.within;
      running = refl;
      number = refl;
      left = refl;
      next = refl;
      kept = refl;
      writer =
          subst (λ (plan : PlanFields). c.move_to.new.self
          ≡ writer_from (shape_of plan) (pads_given c.args.pads) c.args.handover (plan.across * c.args.row)) same c.move_to.ensures;
      started = c.open-self-inside.ensures.started;
      got = c.open-self-inside.ensures.got;
      grid = c.restart.ensures.grid ∙ (let inside = c.self.invariant in inside.grid)
          ∙ ap grid_of same;
      held = c.restart.ensures.held;
    })
