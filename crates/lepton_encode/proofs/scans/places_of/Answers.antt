use Rattle.std.proofs.Common.{arith, get_or, ◌∙◌}
use Rattle.lepton_encode.proofs.PlacesMade.{one_more}
use Rattle.lepton_encode.proofs.scans.places_of.Goals as goal

pub loop-segment-preserved : goal.loop-segment-preserved
loop-segment-preserved c =
    let test = c.loop-segment-test.true in
    record {
      all = one_more (λ i. get_or c.args.starts.now.places i 0) c.loop-segment.places.items
          c.push.new.list.items c.place.result c.loop-segment.segment c.segments-segments.result
          (omega (arith, test)) c.in_ok-push.ensures.items c.place.ensures
          ∙ c.loop-segment.invariant.all;
    }
