use Rattle.std.proofs.Common.{rules, ◌≡◌, ℕ, sym, ap, ◌∙◌, subst}
use Rattle.seat_lock.specs.Passes.{view_of, number_of}
use Rattle.blob_store.specs.declared.note.Note.{Note}
use Rattle.blob_store.specs.declared.note.Ask.TheVariants.{Find}
use Rattle.blob_store.specs.States.{StoreState, Finds, find_reply}
use Rattle.blob_store.specs.CallSteps.{Calls, FindGives}
use Rattle.blob_store.specs.Callers.{CallerValue, HasCalled, FoundBlob}
use Rattle.blob_store.specs.CallerPasses.{caller_value}
use Rattle.blob_store.proofs.CallTold.{keeps, has_called, front_is, is_after}
use Rattle.std.specs.declared.result.Result.{Result}
use Rattle.blob_store.specs.declared.record.Reply.{Reply}
use Rattle.blob_store.specs.declared.record.Stop.{Stop}
use Rattle.blob_store.specs.declared.view.View.{View}
use Rattle.blob_store.proofs.StoreKept.{after_call}
use Rattle.blob_store.proofs.FoundBlobs.{find_calls, find_gives}
use Rattle.blob_store.proofs.holds.find.Goals as goal

pub release-requires-clause-keeps : goal.release-requires-clause-keeps
release-requires-clause-keeps g c κs within =
    let found = c.value-shelf.ensures.value ∙ c.hold-held.ensures.found in
    let id = c.hold-held.ensures.pass.number ∙ c.requires.caller.number_is in
    let note : Note = record {
      caller = c.args.number;
      ask = Find c.args.key;
      answer = c.reply_of-answer.result;
      found = c.counts-found.result;
      left = c.counts-left.result;
    } in
    let gives : FindGives c.hold-held.result.found.value c.find-sought.new.self c.args.number c.args.key c.find-sought.result =
    subst (λ (s : StoreState). FindGives s c.find-sought.new.self c.args.number c.args.key c.find-sought.result) found
    c.find-sought.ensures in
    let call : Calls c.hold-held.result.found.value c.find-sought.new.self c.args.number (Finds c.args.key) c.reply_of-answer.result =
    subst (λ (a : Result Reply Stop). Calls c.hold-held.result.found.value c.find-sought.new.self c.args.number (Finds c.args.key) a)
    (sym c.reply_of-answer.ensures)
    (find_calls c.hold-held.result.found.value c.find-sought.new.self c.args.number c.args.key c.find-sought.result gives) in
    keeps g.F.Form.suits (view_of c.hold-held.result.pass.now) c.hold-held.result.found.value c.find-sought.new.self
    (number_of c.hold-held.result.pass.now) note (sym id) c.counts-left.ensures.faults call tt

pub returns-clause-call : goal.returns-clause-call
returns-clause-call g c =
    let found = c.value-shelf.ensures.value ∙ c.hold-held.ensures.found in
    let note : Note = record {
      caller = c.args.number;
      ask = Find c.args.key;
      answer = c.reply_of-answer.result;
      found = c.counts-found.result;
      left = c.counts-left.result;
    } in
    let gives : FindGives c.hold-held.result.found.value c.find-sought.new.self c.args.number c.args.key c.find-sought.result =
    subst (λ (s : StoreState). FindGives s c.find-sought.new.self c.args.number c.args.key c.find-sought.result) found
    c.find-sought.ensures in
    let call : Calls c.hold-held.result.found.value c.find-sought.new.self c.args.number (Finds c.args.key) c.reply_of-answer.result =
    subst (λ (a : Result Reply Stop). Calls c.hold-held.result.found.value c.find-sought.new.self c.args.number (Finds c.args.key) a)
    (sym c.reply_of-answer.ensures)
    (find_calls c.hold-held.result.found.value c.find-sought.new.self c.args.number c.args.key c.find-sought.result gives) in
    let old : CallerValue = caller_value c.args.pass.now in
    let new : CallerValue = caller_value c.pass-1.given.0 in
    let s : StoreState = c.hold-held.result.found.value in
    let t : StoreState = c.find-sought.new.self in
    let u = view_of c.hold-held.result.pass.now in
    let caller = sym c.requires.caller.number_is in
    let counted = c.counts-found.ensures.faults ∙ ap (λ (x : StoreState). x.faults) found in
    let left = c.counts-left.ensures in (
      subst (λ (a : Result Reply Stop). HasCalled g.F.Form.suits old new (Finds c.args.key) a) c.reply_of-answer.ensures
          (has_called g.F.Form.suits old new s t u note c.hold-held.ensures.fits c.hold-held.ensures.knows.view
          (search rules) caller left.faults counted left.entries call tt
          (search rules) (search rules) (search rules) (search rules) (search rules)),
      front_is g.F.Form.suits old new s t u note c.hold-held.ensures.fits c.hold-held.ensures.knows.view
          (search rules) caller left.faults counted left.entries call tt,
    )

pub returns-clause-blob : goal.returns-clause-blob
returns-clause-blob g c =
    let found = c.value-shelf.ensures.value ∙ c.hold-held.ensures.found in
    let note : Note = record {
      caller = c.args.number;
      ask = Find c.args.key;
      answer = c.reply_of-answer.result;
      found = c.counts-found.result;
      left = c.counts-left.result;
    } in
    let gives : FindGives c.hold-held.result.found.value c.find-sought.new.self c.args.number c.args.key c.find-sought.result =
    subst (λ (s : StoreState). FindGives s c.find-sought.new.self c.args.number c.args.key c.find-sought.result) found
    c.find-sought.ensures in
    let call : Calls c.hold-held.result.found.value c.find-sought.new.self c.args.number (Finds c.args.key) c.reply_of-answer.result =
    subst (λ (a : Result Reply Stop). Calls c.hold-held.result.found.value c.find-sought.new.self c.args.number (Finds c.args.key) a)
    (sym c.reply_of-answer.ensures)
    (find_calls c.hold-held.result.found.value c.find-sought.new.self c.args.number c.args.key c.find-sought.result gives) in
    let old : CallerValue = caller_value c.args.pass.now in
    let new : CallerValue = caller_value c.pass-1.given.0 in
    let s : StoreState = c.hold-held.result.found.value in
    let t : StoreState = c.find-sought.new.self in
    let u = view_of c.hold-held.result.pass.now in
    let caller = sym c.requires.caller.number_is in
    let counted = c.counts-found.ensures.faults ∙ ap (λ (x : StoreState). x.faults) found in
    let left = c.counts-left.ensures in
    let seen : new.view ≡ after_call old.view s t old.number (Finds c.args.key) c.reply_of-answer.result =
    is_after g.F.Form.suits old new s t u note c.hold-held.ensures.fits c.hold-held.ensures.knows.view
    (search rules) caller left.faults counted left.entries call tt in
    let sees : new.view ≡ after_call old.view s t old.number (Finds c.args.key) (find_reply c.find-sought.result) =
    seen ∙ ap (λ (a : Result Reply Stop). after_call old.view s t old.number (Finds c.args.key) a) c.reply_of-answer.ensures in
    let gives' : FindGives s t old.number c.args.key c.find-sought.result =
    subst (λ (n : ℕ). FindGives s t n c.args.key c.find-sought.result) caller gives in
    subst (λ (x : View). FoundBlob g.F.Form.suits x.blobs c.args.key c.find-sought.result) (sym sees)
    (find_gives g.F.Form.suits s t old.number c.args.key old.view c.find-sought.result
    c.hold-held.ensures.fits.fitted.sound gives')
