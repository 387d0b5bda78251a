use Rattle.std.proofs.Common.{arith}
use Rattle.range_read.proofs.CountedSteps.{none_counted, more_counted, count_fits, all_counted, fault_counted}
use Rattle.range_read.proofs.measure.measure_begun.Goals as goal

pub loop-pads-init : goal.loop-pads-init
loop-pads-init c = none_counted c.args.decoder.now c.requires.running c.requires.owes

pub overflow_add-length : goal.overflow_add-length
overflow_add-length c =
    let fits = count_fits c.args.decoder.now c.loop-pads.decoder c.step-step.new.self
    c.loop-pads.length c.len.result c.step-step.new.out c.loop-pads.invariant c.len.ensures.count
    c.len.ensures.within c.requires.few in
    omega (arith, fits)

pub loop-pads-preserved : goal.loop-pads-preserved
loop-pads-preserved c =
    (more_counted c.args.decoder.now c.loop-pads.decoder c.step-step.new.self c.loop-pads.length c.len.result
    c.step-step.new.out c.loop-pads.invariant c.len.ensures.count c.len.ensures.within
    c.in-More.ensures.pays c.in-More.ensures.begun c.in-More.ensures.plans).1

pub loop-pads-smaller : goal.loop-pads-smaller
loop-pads-smaller c =
    (more_counted c.args.decoder.now c.loop-pads.decoder c.step-step.new.self c.loop-pads.length c.len.result
    c.step-step.new.out c.loop-pads.invariant c.len.ensures.count c.len.ensures.within
    c.in-More.ensures.pays c.in-More.ensures.begun c.in-More.ensures.plans).0

pub returns-in-Done-clause-measured : goal.returns-in-Done-clause-measured
returns-in-Done-clause-measured c =
    all_counted c.args.decoder.now c.loop-pads.decoder c.step-step.new.self c.loop-pads.length c.len.result
    c.step-step.new.out c.loop-pads.invariant c.len.ensures.count c.len.ensures.within c.in-Done.pads
    c.requires.few c.in-Done.ensures.pays

pub returns-in-Fault-clause-measured : goal.returns-in-Fault-clause-measured
returns-in-Fault-clause-measured c =
    fault_counted c.args.decoder.now c.loop-pads.decoder c.step-step.new.self c.loop-pads.length c.len.result
    c.step-step.new.out c.loop-pads.invariant c.len.ensures.count c.len.ensures.within c.in-Fault.fault
    c.in-Fault.ensures.pays
