use Rattle.std.proofs.Common.{◌≡◌, ℕ, List, ap, ◌∙◌, subst}
use Rattle.std.specs.declared.result.Result.{Result}
use Rattle.std.specs.declared.result.Result.TheVariants.{Err}
use Rattle.blob_store.specs.declared.record.Reply.{Reply}
use Rattle.blob_store.specs.declared.record.Stop.{Stop}
use Rattle.blob_store.specs.declared.record.Stop.TheVariants.{Clash}
use Rattle.blob_store.specs.States.{Puts}
use Rattle.blob_store.specs.Callers.{HasCalled}
use Rattle.photo_store.specs.Photos.{SuitsKey}
use Rattle.photo_store.proofs.Clashes.{clash_has_twin}
use Rattle.photo_store.proofs.store.Store.put.Goals as goal

pub returns-in-Err-answer-clause-clash : goal.returns-in-Err-answer-clause-clash
returns-in-Err-answer-clause-clash g c = λ is.
    let old = c.args.caller.now in
    let new = c.put-answer.new.caller in
    let blob : List ℕ = c.in-Ok.blob.items in
    let stop : c.in-Err-answer.stop ≡ Clash = cc in
    clash_has_twin old new c.args.file.now blob c.in-Ok.ensures
    (subst (λ (key : List ℕ). HasCalled SuitsKey old new (Puts key blob) (Err Clash)) c.key_of-key.ensures
    (subst (λ (r : Result Reply Stop). HasCalled SuitsKey old new (Puts c.key_of-key.result blob) r)
    (c.in-Err-answer.is ∙ ap (λ (s : Stop). Err s) stop) c.put-answer.ensures.call.0))
