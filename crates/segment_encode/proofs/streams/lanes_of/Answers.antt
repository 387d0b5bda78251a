use Rattle.std.proofs.Common.{◌+◌, arith}
use Rattle.cut_spec.specs.Cuts.{first_mcu}
use Rattle.cut_spec.specs.RowHandovers.{mcus_between}
use Rattle.box_format.specs.Parts.{box_cut}
use Rattle.container_spec.specs.ScanStream.{stream_of}
use Rattle.segment_encode.proofs.NewLanes.{more_given, more_lanes, no_lanes}
use Rattle.segment_encode.proofs.streams.lanes_of.Goals as goal

pub loop-first-init : goal.loop-first-init
loop-first-init c =
    let room = c.in_a_lane-each.ensures.most in
    record {
      so_far = no_lanes c.args.count c.in_a_lane-each.result c.in_ok-lanes.lanes.items
          c.in_ok-lanes.ensures.items (omega (arith, room));
      streams = λ mcus pads file are. rw (c.in_ok-lanes.ensures.items) tt;
    }

pub loop-first-preserved : goal.loop-first-preserved
loop-first-preserved c =
    let lanes = c.loop-first.lanes.items in
    let next = c.push.new.list.items in
    let lane = c.in_ok-lane.lane in
    let so_far = c.loop-first.invariant.so_far in
    record {
      so_far = more_lanes c.args.count c.in_a_lane-each.result c.loop-first.first c.min-some.result
          lanes next lane so_far c.loop-first-test.true c.min-some.ensures c.in_ok-lane.ensures.new
          c.in_ok-lane.ensures.file (omega (arith, c.in_ok-lane.ensures.count)) c.in_ok-push.ensures.items;
      streams = λ mcus pads file are.
          let plan = c.args.plan.now in
          let cut = box_cut plan c.args.chunk c.args.count in
          more_given (λ i. stream_of plan (mcus_between mcus (first_mcu cut i) (first_mcu cut (i + 1))))
          c.loop-first.first lanes next lane (c.loop-first.invariant.streams mcus pads file are)
          so_far.long (c.in_ok-lane.ensures.streams mcus pads file are) c.in_ok-push.ensures.items;
    }

pub returns-clause-new : goal.returns-clause-new
returns-clause-new c = c.loop-first.invariant.so_far.new

pub returns-clause-file : goal.returns-clause-file
returns-clause-file c = c.loop-first.invariant.so_far.file

pub returns-clause-most : goal.returns-clause-most
returns-clause-most c = c.loop-first.invariant.so_far.most

pub returns-clause-count : goal.returns-clause-count
returns-clause-count c =
    let test = c.loop-first-test.false in
    let within = c.loop-first.invariant.so_far.within in
    let long = c.loop-first.invariant.so_far.long in
    omega (arith, test, within, long)
