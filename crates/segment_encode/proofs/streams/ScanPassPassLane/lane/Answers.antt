use Rattle.segment_encode.proofs.StreamsPassed.{lane_gives, lane_stays}
use Rattle.segment_encode.proofs.streams.ScanPassPassLane.lane.Goals as goal

pub returns-clause-gives : goal.returns-clause-gives
returns-clause-gives c = λ end first rest.
    lane_gives c.args.count c.args.self.now c.next_lane.new.pass c.next_lane.result
    c.next_lane.ensures.passed c.next_lane.ensures.count c.next_lane.ensures.parts end first rest

pub returns-clause-none : goal.returns-clause-none
returns-clause-none c = λ end rest.
    lane_stays c.args.count c.args.self.now c.next_lane.new.pass c.next_lane.result
    c.next_lane.ensures.passed c.next_lane.ensures.parts end rest
