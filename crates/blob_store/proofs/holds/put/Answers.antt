use Rattle.std.proofs.Common.{rules, ℕ, List, sym, ap, ◌∙◌, subst}
use Rattle.seat_lock.specs.Passes.{view_of, number_of}
use Rattle.blob_store.specs.declared.note.Note.{Note}
use Rattle.blob_store.specs.declared.note.Ask.TheVariants.{Put}
use Rattle.blob_store.specs.States.{StoreState, Puts}
use Rattle.blob_store.specs.CallSteps.{Calls}
use Rattle.blob_store.specs.Callers.{CallerValue}
use Rattle.blob_store.specs.CallerPasses.{caller_value}
use Rattle.blob_store.proofs.CallTold.{keeps, has_called, front_is}
use Rattle.blob_store.proofs.holds.put.Goals as goal

pub release-requires-clause-keeps : goal.release-requires-clause-keeps
release-requires-clause-keeps g c κs within =
    let found = c.value-shelf.ensures.value ∙ c.hold-held.ensures.found in
    let id = c.hold-held.ensures.pass.number ∙ c.requires.caller.number_is in
    let note : Note = record {
      caller = c.args.number;
      ask = Put c.args.key c.args.blob;
      answer = c.put-answer.result;
      found = c.counts-found.result;
      left = c.counts-left.result;
    } in
    let call : Calls c.hold-held.result.found.value c.put-answer.new.self c.args.number (Puts c.args.key c.args.blob.items) c.put-answer.result =
    subst (λ (s : StoreState). Calls s c.put-answer.new.self c.args.number (Puts c.args.key c.args.blob.items) c.put-answer.result) found
    (subst (λ (b : List ℕ). Calls c.value-shelf.result.now c.put-answer.new.self c.args.number (Puts c.args.key b) c.put-answer.result)
    c.deref.ensures.value c.put-answer.ensures) in
    keeps g.F.Form.suits (view_of c.hold-held.result.pass.now) c.hold-held.result.found.value c.put-answer.new.self
    (number_of c.hold-held.result.pass.now) note (sym id) c.counts-left.ensures.faults call c.requires.suits

pub returns-clause-call : goal.returns-clause-call
returns-clause-call g c =
    let found = c.value-shelf.ensures.value ∙ c.hold-held.ensures.found in
    let note : Note = record {
      caller = c.args.number;
      ask = Put c.args.key c.args.blob;
      answer = c.put-answer.result;
      found = c.counts-found.result;
      left = c.counts-left.result;
    } in
    let call : Calls c.hold-held.result.found.value c.put-answer.new.self c.args.number (Puts c.args.key c.args.blob.items) c.put-answer.result =
    subst (λ (s : StoreState). Calls s c.put-answer.new.self c.args.number (Puts c.args.key c.args.blob.items) c.put-answer.result) found
    (subst (λ (b : List ℕ). Calls c.value-shelf.result.now c.put-answer.new.self c.args.number (Puts c.args.key b) c.put-answer.result)
    c.deref.ensures.value c.put-answer.ensures) in
    let old : CallerValue = caller_value c.args.pass.now in
    let new : CallerValue = caller_value c.pass-1.given.0 in
    let s : StoreState = c.hold-held.result.found.value in
    let t : StoreState = c.put-answer.new.self in
    let u = view_of c.hold-held.result.pass.now in
    let caller = sym c.requires.caller.number_is in
    let counted = c.counts-found.ensures.faults ∙ ap (λ (x : StoreState). x.faults) found in
    let left = c.counts-left.ensures in (
      has_called g.F.Form.suits old new s t u note c.hold-held.ensures.fits c.hold-held.ensures.knows.view
          (search rules) caller left.faults counted left.entries call c.requires.suits
          (search rules) (search rules) (search rules) (search rules) (search rules),
      front_is g.F.Form.suits old new s t u note c.hold-held.ensures.fits c.hold-held.ensures.knows.view
          (search rules) caller left.faults counted left.entries call c.requires.suits,
    )
