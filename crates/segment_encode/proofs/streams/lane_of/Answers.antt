use Rattle.std.proofs.Common.{◌+◌, arith}
use Rattle.cut_spec.specs.Cuts.{first_mcu}
use Rattle.cut_spec.specs.RowHandovers.{mcus_between}
use Rattle.box_format.specs.Parts.{box_cut}
use Rattle.container_spec.specs.ScanStream.{stream_of}
use Rattle.segment_encode.specs.Lanes.{AreOfAFile, GiveEach}
use Rattle.segment_encode.proofs.PartsKept.{if_ok_parts, more_filed, more_planned, more_ready, one_given, one_longer}
use Rattle.segment_encode.proofs.streams.lane_of.Goals as goal

pub loop-segment-preserved : goal.loop-segment-preserved
loop-segment-preserved c =
    let before = c.loop-segment.invariant in
    let rs = c.loop-segment.parts.items in
    let next = c.push.new.list.items in
    let r = c.in_ok-part.part in
    let kept = c.in_ok-push.ensures.items in
    let longer = one_longer rs next r kept in
    let was = before.long in
    record {
      ready = more_ready rs next r before.ready c.in_ok-part.ensures.ready kept;
      plan = more_planned c.args.plan.now rs next r before.plan c.in_ok-part.ensures.plan kept;
      file = more_filed rs next r before.file c.in_ok-part.ensures.refused kept;
      long = omega (arith, longer, was);
      streams = λ mcus pads file are.
          let plan = c.args.plan.now in
          let cut = box_cut plan c.args.chunk c.args.count in
          one_given (λ i. stream_of plan (mcus_between mcus (first_mcu cut i) (first_mcu cut (i + 1))))
          c.args.segments.start c.loop-segment.segment rs next r (before.streams mcus pads file are) was
          (λ stream. c.in_ok-part.ensures.stream mcus pads stream file are) kept;
    }

pub returns-clause-file : goal.returns-clause-file
returns-clause-file c =
    if_ok_parts AreOfAFile c.prepare.result c.loop-segment.parts.items c.prepare.ensures.parts
    c.loop-segment.invariant.file

pub returns-clause-streams : goal.returns-clause-streams
returns-clause-streams c = λ mcus pads file are.
    let plan = c.args.plan.now in
    let cut = box_cut plan c.args.chunk c.args.count in
    if_ok_parts (GiveEach (λ i. stream_of plan (mcus_between mcus (first_mcu cut i) (first_mcu cut (i + 1))))
    c.args.segments.start) c.prepare.result c.loop-segment.parts.items c.prepare.ensures.parts
    (c.loop-segment.invariant.streams mcus pads file are)
