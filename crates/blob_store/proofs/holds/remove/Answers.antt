use Rattle.std.proofs.Common.{rules, sym, ap, ◌∙◌, subst}
use Rattle.seat_lock.specs.Passes.{view_of, number_of}
use Rattle.blob_store.specs.declared.note.Note.{Note}
use Rattle.blob_store.specs.declared.note.Ask.TheVariants.{Remove}
use Rattle.blob_store.specs.States.{StoreState, Removes}
use Rattle.blob_store.specs.CallSteps.{Calls}
use Rattle.blob_store.specs.Callers.{CallerValue}
use Rattle.blob_store.specs.CallerPasses.{caller_value}
use Rattle.blob_store.proofs.CallTold.{keeps, has_called, front_is}
use Rattle.blob_store.proofs.holds.remove.Goals as goal

pub release-requires-clause-keeps : goal.release-requires-clause-keeps
release-requires-clause-keeps g c κs within =
    let found = c.value-shelf.ensures.value ∙ c.hold-held.ensures.found in
    let id = c.hold-held.ensures.pass.number ∙ c.requires.caller.number_is in
    let note : Note = record {
      caller = c.args.number;
      ask = Remove c.args.key;
      answer = c.remove-answer.result;
      found = c.counts-found.result;
      left = c.counts-left.result;
    } in
    let call : Calls c.hold-held.result.found.value c.remove-answer.new.self c.args.number (Removes c.args.key) c.remove-answer.result =
    subst (λ (s : StoreState). Calls s c.remove-answer.new.self c.args.number (Removes c.args.key) c.remove-answer.result) found
    c.remove-answer.ensures in
    keeps g.F.Form.suits (view_of c.hold-held.result.pass.now) c.hold-held.result.found.value c.remove-answer.new.self
    (number_of c.hold-held.result.pass.now) note (sym id) c.counts-left.ensures.faults call tt

pub returns-clause-call : goal.returns-clause-call
returns-clause-call g c =
    let found = c.value-shelf.ensures.value ∙ c.hold-held.ensures.found in
    let note : Note = record {
      caller = c.args.number;
      ask = Remove c.args.key;
      answer = c.remove-answer.result;
      found = c.counts-found.result;
      left = c.counts-left.result;
    } in
    let call : Calls c.hold-held.result.found.value c.remove-answer.new.self c.args.number (Removes c.args.key) c.remove-answer.result =
    subst (λ (s : StoreState). Calls s c.remove-answer.new.self c.args.number (Removes c.args.key) c.remove-answer.result) found
    c.remove-answer.ensures in
    let old : CallerValue = caller_value c.args.pass.now in
    let new : CallerValue = caller_value c.pass-1.given.0 in
    let s : StoreState = c.hold-held.result.found.value in
    let t : StoreState = c.remove-answer.new.self in
    let u = view_of c.hold-held.result.pass.now in
    let caller = sym c.requires.caller.number_is in
    let counted = c.counts-found.ensures.faults ∙ ap (λ (x : StoreState). x.faults) found in
    let left = c.counts-left.ensures in (
      has_called g.F.Form.suits old new s t u note c.hold-held.ensures.fits c.hold-held.ensures.knows.view
          (search rules) caller left.faults counted left.entries call tt
          (search rules) (search rules) (search rules) (search rules) (search rules),
      front_is g.F.Form.suits old new s t u note c.hold-held.ensures.fits c.hold-held.ensures.knows.view
          (search rules) caller left.faults counted left.entries call tt,
    )
