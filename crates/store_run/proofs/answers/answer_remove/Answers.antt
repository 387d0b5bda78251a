use Rattle.std.proofs.Common.{sym, subst}
use Rattle.std.specs.declared.result.Result.{Result}
use Rattle.blob_store.specs.declared.record.Stop.{Stop}
use Rattle.photo_store.specs.FileStores.{RemoveFile}
use Rattle.store_run.specs.Answering.{HasAnswered}
use Rattle.store_run.specs.declared.answers.Answer.{Answer}
use Rattle.store_run.proofs.Answered.{remove_answered}
use Rattle.store_run.proofs.answers.answer_remove.Goals as goal

pub returns : goal.returns
returns g c =
    subst (λ (r : Result Answer Stop). HasAnswered c.args.caller.now c.remove-removal.new.caller (RemoveFile c.args.key) r)
    (sym c.remove_answer.ensures)
    (remove_answered c.args.caller.now c.remove-removal.new.caller c.args.key c.remove-removal.result c.remove-removal.ensures.removal)
