use Rattle.std.proofs.Common.{rules, ap, Err, inl, inr, ℕ, refl, sym, subst}
use Rattle.bool_coder.proofs.FirstBits.{all_bytes}
use Rattle.outside_core.specs.Takes.{TakesNext}
use Rattle.container_spec.specs.RangeMeanings.{range_meaning}
use Rattle.range_read.specs.RangeEnds.{RangeEnds}
use Rattle.range_read.specs.declared.error.RangeError.{RangeError}
use Rattle.command_words.specs.declared.command.Command.TheVariants.{Range}
use Rattle.lepton_run.specs.CommandEnds.{CarriedOut}
use Rattle.lepton_run.specs.declared.ending.Ending.{Ending}
use Rattle.lepton_run.specs.declared.refusal.Refusal.TheVariants.{Box, RangeBad}
use Rattle.lepton_run.proofs.CarriedOut.{refused_early}
use Rattle.lepton_run.proofs.ScansOfBytes.{box_are}
use Rattle.lepton_run.proofs.RangesCarried.{bad_answer, range_ended, range_taken}
use Rattle.lepton_run.proofs.commands.range.Goals as goal

pub returns-in-Err-Box-clause-ending : goal.returns-in-Err-Box-clause-ending
returns-in-Err-Box-clause-ending g c =
    refused_early g.K.Sink.held g.K.Sink.faults g.K.Sink.full c.args.sink.now c.args.sink.now
    c.args.bytes.now (all_bytes c.args.bytes.now (λ i. search rules))
    (Range c.args.from c.args.to c.args.workers) (Box c.in-Err-Box.refusal) c.requires.short
    (inl (
      c.in-Err-Box.refusal,
      c.in-Err-Box.ensures.refused c.in-Err-Box.refusal
          (ap (λ (error : RangeError). Err error) c.in-Err-Box.field-0-is),
      refl,
    ))

pub returns-in-Err-RangeBad-clause-ending : goal.returns-in-Err-RangeBad-clause-ending
returns-in-Err-RangeBad-clause-ending g c =
    let bad = c.in-Err-RangeBad.ensures.bad
    (ap (λ (error : RangeError). Err error) c.in-Err-RangeBad.field-0-is) in
    refused_early g.K.Sink.held g.K.Sink.faults g.K.Sink.full c.args.sink.now c.args.sink.now
    c.args.bytes.now (all_bytes c.args.bytes.now (λ i. search rules))
    (Range c.args.from c.args.to c.args.workers) RangeBad c.requires.short
    (inr (bad.0, bad.1, bad.2, bad.3, bad_answer c.args.from c.args.to bad.0 bad.1 bad.4))

pub returns-clause-ending : goal.returns-clause-ending
returns-clause-ending g c =
    let r = c.in-Ok.ensures in
    let plan = c.in-Ok.ready.plan in
    let parts = c.in-Ok.ready.parts in
    let ended : RangeEnds g.K.Sink.held g.K.Sink.takes g.K.Sink.faults g.K.Sink.full c.args.sink.now
    c.run_range-ended.new.sink (range_meaning plan parts c.args.from c.args.to) c.run_range-ended.result =
    subst (λ (n : ℕ). RangeEnds g.K.Sink.held g.K.Sink.takes g.K.Sink.faults g.K.Sink.full c.args.sink.now
    c.run_range-ended.new.sink (range_meaning plan parts n c.args.to) c.run_range-ended.result) r.from
    (subst (λ (n : ℕ). RangeEnds g.K.Sink.held g.K.Sink.takes g.K.Sink.faults g.K.Sink.full c.args.sink.now
    c.run_range-ended.new.sink (range_meaning plan parts c.in-Ok.ready.from n) c.run_range-ended.result) r.to c.run_range-ended.ensures.ends) in
    subst (λ (ending : Ending). CarriedOut g.K.Sink.held g.K.Sink.faults g.K.Sink.full
    (Range c.args.from c.args.to c.args.workers) c.args.bytes.now c.args.sink.now c.run_range-ended.new.sink ending)
    (sym c.range_ended_by.ensures.ending)
    (range_ended g.K.Sink.held g.K.Sink.faults g.K.Sink.full g.K.Sink.takes c.args.sink.now
    c.run_range-ended.new.sink c.args.bytes.now (box_are plan parts c.args.bytes.now r.ready) c.args.from
    c.args.to c.args.workers c.requires.short plan parts r.ready r.version r.good c.run_range-ended.result ended)

pub run_range-ended-requires-clause-takes : goal.run_range-ended-requires-clause-takes
run_range-ended-requires-clause-takes g c κs within =
    let r = c.in-Ok.ensures in
    let plan = c.in-Ok.ready.plan in
    let parts = c.in-Ok.ready.parts in
    let taken = range_taken g.K.Sink.held g.K.Sink.faults g.K.Sink.full g.K.Sink.takes c.args.sink.now
    c.args.sink.now c.args.bytes.now (box_are plan parts c.args.bytes.now r.ready) c.args.from
    c.args.to c.args.workers c.requires.short plan parts r.ready r.version r.good c.requires.takes in
    subst (λ (n : ℕ). TakesNext g.K.Sink.takes c.args.sink.now (range_meaning plan parts n c.in-Ok.ready.to).bytes)
    (sym r.from)
    (subst (λ (n : ℕ). TakesNext g.K.Sink.takes c.args.sink.now (range_meaning plan parts c.args.from n).bytes)
    (sym r.to) taken)
