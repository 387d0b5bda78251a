use Rattle.std.proofs.Common.{◌≡◌, ◌-◌, length, take, refl, arith, sym, ◌∙◌, Some}
use Rattle.std.proofs.lemmas.List.{take_all, length-drop}
use Rattle.jpeg_marker.specs.Plans.{PlanFields, plan_after}
use Rattle.jpeg_marker.specs.Walks.{Walk, walk_from}
use Rattle.jpeg_marker.specs.HeaderPlan.{Begins, Stops}
use Rattle.jpeg_marker.proofs.Walking.{Walked-start, Walked-more, Stands-shorter, stops_checked, scan_here, begins_here, ok_checked, err_checked}
use Rattle.jpeg_marker.proofs.header.walk.Goals as goal

pub segments-init : goal.segments-init
segments-init c =
    let bytes = c.args.bytes.now in
    let w : Walk = walk_from c.args.known.now c.args.scans c.args.place (take c.args.start bytes) in
    record {
      walked = Walked-start w bytes _ c.args.start c.again-found.result refl c.requires.start (take_all _ _ (omega (arith, length-drop c.args.start bytes))) c.again-found.ensures.kept;
      room = omega (arith, length-drop c.args.start bytes, c.requires.start);
    }

pub returns-then-whole-clause-accepted : goal.returns-then-whole-clause-accepted
returns-then-whole-clause-accepted c =
    let bytes = c.args.bytes.now in
    let w : Walk = walk_from c.args.known.now c.args.scans c.args.place (take c.args.start bytes) in
    let whole = c.in_ok-whole.whole in
    let found = c.segments.found in
    let plan = λ (p : PlanFields). plan_after found found.frame (length bytes - length whole.rest.now) whole.body.now ≡ Some p in
    ok_checked c.read_scan.result _ plan (Begins w bytes) c.read_scan.ensures.fault (λ p checked says. begins_here w bytes c.segments.rest.now whole.rest.now whole.body.now c.segments.here whole.code whole.at found p c.segments.invariant.walked c.in_ok-whole.ensures.whole c.if-whole.true checked says) c.read_scan.ensures.found

pub returns-then-whole-clause-refused : goal.returns-then-whole-clause-refused
returns-then-whole-clause-refused c =
    let bytes = c.args.bytes.now in
    let w : Walk = walk_from c.args.known.now c.args.scans c.args.place (take c.args.start bytes) in
    let whole = c.in_ok-whole.whole in
    let found = c.segments.found in
    err_checked c.read_scan.result _ (Stops w bytes) c.read_scan.ensures.fault (λ r fault. stops_checked w bytes c.segments.rest.now whole.rest.now whole.body.now c.segments.here whole.code whole.at found r c.segments.invariant.walked c.in_ok-whole.ensures.whole (scan_here w found whole.at whole.code whole.body.now c.if-whole.true ∙ fault))

pub segments-preserved : goal.segments-preserved
segments-preserved c =
    let bytes = c.args.bytes.now in
    let w : Walk = walk_from c.args.known.now c.args.scans c.args.place (take c.args.start bytes) in
    let whole = c.in_ok-whole.whole in
    record {
      walked = Walked-more w bytes c.segments.rest.now whole.rest.now whole.body.now c.segments.here whole.code whole.at c.segments.found c.take.new.self c.segments.invariant.walked c.in_ok-whole.ensures.whole c.if-whole.false (sym c.in_ok-take.ensures.fault) c.in_ok-take.ensures.kept;
      room = omega (arith, Stands-shorter c.segments.rest.now whole.rest.now whole.body.now c.segments.here whole.code whole.at c.in_ok-whole.ensures.whole, c.segments.invariant.room);
    }
