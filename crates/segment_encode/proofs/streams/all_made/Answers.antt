use Rattle.std.proofs.Common.{rules, ◌≡◌, ◌∷◌, length, map, sym, ap, subst}
use Rattle.std.specs.Prelude.{Err}
use Rattle.std.proofs.lemmas.Result.{err_from_is_err_and}
use Rattle.segment_code.specs.declared.error.ScanError.{ScanError}
use Rattle.segment_code.specs.declared.error.ScanError.TheVariants.{Scan}
use Rattle.segment_encode.specs.Lanes.{AreCoded}
use Rattle.segment_encode.proofs.LanesMade.{all_lanes_made, lane_not_refused, no_lane, one_lane}
use Rattle.segment_encode.proofs.streams.all_made.Goals as goal

pub loop-lane-init : goal.loop-lane-init
loop-lane-init c =
    let all : c.into_iter-lane-iterator.result.rest.items ≡ c.args.lanes.items = search rules in
    λ olds coded. no_lane olds c.into_iter-lane-iterator.result.rest.items
    (map (λ v. v.items) c.new-streams.result.items)
    (subst (AreCoded olds) (sym all) coded) (ap (map (λ v. v.items)) c.new-streams.ensures.items)

pub loop-lane-preserved : goal.loop-lane-preserved
loop-lane-preserved c =
    let front : c.loop-lane.lane-iterator.rest.items ≡ c.in-Some.lane ∷ c.next.new.self.rest.items =
    search rules in
    λ olds coded. one_lane olds c.loop-lane.lane-iterator.rest.items c.next.new.self.rest.items
    c.in-Some.lane (map (λ v. v.items) c.loop-lane.streams.items)
    (map (λ v. v.items) c.in_ok-streams.field-0.items)
    (map (λ v. v.items) c.in_ok-streams-2.streams.items) (c.loop-lane.invariant olds coded) front
    (λ old has. c.in_ok-streams.ensures.made old has) c.in_ok-streams-2.ensures.made

pub returns-in_err-streams-clause-refused : goal.returns-in_err-streams-clause-refused
returns-in_err-streams-clause-refused c =
    let front : c.loop-lane.lane-iterator.rest.items ≡ c.in-Some.lane ∷ c.next.new.self.rest.items =
    search rules in
    let p = err_from_is_err_and c.from_residual.result c.from_residual.ensures.1 in
    rw (p.1, p.2) (λ olds refusal coded files same.
    let error : c.in_err-streams.field-0.0 ≡ Scan refusal = cc in
    lane_not_refused olds c.loop-lane.lane-iterator.rest.items c.next.new.self.rest.items
    c.in-Some.lane (map (λ v. v.items) c.loop-lane.streams.items) (c.loop-lane.invariant olds coded)
    front
    (λ old has. c.in_err-streams.ensures.refused old refusal has (ap (λ (e : ScanError). Err e) error))
    files)

pub returns-clause-made : goal.returns-clause-made
returns-clause-made c = λ olds coded.
    let steps = c.in-None.ensures.steps.0 in
    let none : length c.loop-lane.lane-iterator.rest.items ≡ 0 = search rules in
    all_lanes_made olds c.loop-lane.lane-iterator.rest.items
    (map (λ v. v.items) c.loop-lane.streams.items) (c.loop-lane.invariant olds coded) none
