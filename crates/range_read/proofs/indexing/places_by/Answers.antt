use Rattle.std.proofs.Common.{rules, ◌≡◌, ◌<◌, ◌≤◌, ◌^◌, ◌∷◌, length, sym, ap, ◌∙◌, arith, true, false}
use Rattle.std.proofs.lemmas.List.FromFn.{length-map-range_with_len}
use Rattle.handover.specs.declared.outcome.Outcome.{Outcome}
use Rattle.handover.specs.declared.outcome.Outcome.TheVariants.{Bad}
use Rattle.handover.specs.declared.outcome.StreamFault.{StreamFault}
use Rattle.scan_spec.specs.Pads.{PadBits, is_spelled}
use Rattle.box_format.specs.Versions.{most_segments}
use Rattle.container_spec.specs.Segments.{segment_output}
use Rattle.container_spec.specs.Indexed.{outputs_of}
use Rattle.container_spec.specs.Meanings.{segment_in}
use Rattle.range_read.proofs.FoundPlaces.{all_places, all_spelled, bad_place, good_place, next_fits, no_places}
use Rattle.range_read.proofs.indexing.places_by.Goals as goal

pub loop-measure-init : goal.loop-measure-init
loop-measure-init c =
    let plan = c.args.view.now.plan in
    let b = c.args.view.now.parts in
    let bytes = c.header.ensures.bytes in
    let long = length-map-range_with_len (λ i. segment_output (segment_in plan b i)) 0 (length b.handovers) in
    let count = c.segments.ensures.count in
    let most = c.segments.ensures.few in
    let few : length (outputs_of plan b) ≤ most_segments = omega (arith, long, count, most) in
    let short = c.header.ensures.fits in
    let same = ap length bytes in
    let fits : length b.header < 2 ^ 32 = omega (arith, short, same) in
    let all : c.into_iter-measure-iterator.result.rest.items ≡ c.args.measures.items =
    search rules in
    rw (all, c.in_ok-places.ensures.items, bytes, c.none-pads.ensures)
    (no_places plan b c.args.measures.items c.requires.measures fits few)

pub overflow_add-place : goal.overflow_add-place
overflow_add-place c =
    let l = c.loop-measure in
    let front : l.measure-iterator.rest.items ≡ c.in-Some.measure ∷ c.next.new.self.rest.items =
    search rules in
    let fits = next_fits c.args.view.now.plan c.args.view.now.parts c.in-Some.measure
    l.measure-iterator.rest.items c.next.new.self.rest.items l.places.items l.place l.pads
    c.in-Good.more l.invariant front c.in-Good.is in
    omega (arith, fits)

pub loop-measure-preserved : goal.loop-measure-preserved
loop-measure-preserved c =
    let l = c.loop-measure in
    let front : l.measure-iterator.rest.items ≡ c.in-Some.measure ∷ c.next.new.self.rest.items =
    search rules in
    good_place c.args.view.now.plan c.args.view.now.parts c.in-Some.measure
    l.measure-iterator.rest.items c.next.new.self.rest.items l.places.items c.push.new.list.items
    l.place l.pads c.in-Good.more c.with-pads.result l.invariant front c.in-Good.is
    c.in_ok-push.ensures.items c.with-pads.ensures

pub returns-in-Bad-clause-fault : goal.returns-in-Bad-clause-fault
returns-in-Bad-clause-fault c = λ fault is.
    let l = c.loop-measure in
    let front : l.measure-iterator.rest.items ≡ c.in-Some.measure ∷ c.next.new.self.rest.items =
    search rules in
    let same : c.in-Bad.fault ≡ fault = let e = c.in-Bad.fault-is in cc in
    bad_place c.args.view.now.plan c.args.view.now.parts c.in-Some.measure
    l.measure-iterator.rest.items c.next.new.self.rest.items l.places.items l.place l.pads fault
    c.requires.whole l.invariant front
    (c.in-Bad.is ∙ ap (λ (f : StreamFault). let o : Outcome = Bad f in o) same)

pub returns-then-is_spelled-clause-places : goal.returns-then-is_spelled-clause-places
returns-then-is_spelled-clause-places c =
    let l = c.loop-measure in
    let steps = c.in-None.ensures.steps.0 in
    let none : length l.measure-iterator.rest.items ≡ 0 = search rules in
    all_places c.args.view.now.plan c.args.view.now.parts l.measure-iterator.rest.items
    l.places.items c.push-2.new.list.items l.place l.pads l.invariant none
    c.in_ok-push-2.ensures.items

pub returns-then-is_spelled-clause-restored : goal.returns-then-is_spelled-clause-restored
returns-then-is_spelled-clause-restored c =
    let l = c.loop-measure in
    let steps = c.in-None.ensures.steps.0 in
    let none : length l.measure-iterator.rest.items ≡ 0 = search rules in
    all_spelled c.args.view.now.plan c.args.view.now.parts l.measure-iterator.rest.items
    l.places.items l.place l.pads true l.invariant none c.requires.whole
    (ap (λ (pads : PadBits). is_spelled pads c.loop-measure.pads) (sym c.pad.ensures.value)
    ∙ sym c.is_spelled.ensures ∙ c.if-is_spelled.true)

pub returns-else-is_spelled-clause-spelling : goal.returns-else-is_spelled-clause-spelling
returns-else-is_spelled-clause-spelling c = λ is.
    let l = c.loop-measure in
    let steps = c.in-None.ensures.steps.0 in
    let none : length l.measure-iterator.rest.items ≡ 0 = search rules in
    all_spelled c.args.view.now.plan c.args.view.now.parts l.measure-iterator.rest.items
    l.places.items l.place l.pads false l.invariant none c.requires.whole
    (ap (λ (pads : PadBits). is_spelled pads c.loop-measure.pads) (sym c.pad.ensures.value)
    ∙ sym c.is_spelled.ensures ∙ c.if-is_spelled.false)
