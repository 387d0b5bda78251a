use Rattle.std.proofs.Common.{sym, subst}
use Rattle.std.specs.declared.result.Result.{Result}
use Rattle.blob_store.specs.declared.record.Stop.{Stop}
use Rattle.photo_store.specs.FileStores.{PutFile}
use Rattle.store_run.specs.Answering.{HasAnswered}
use Rattle.store_run.specs.declared.answers.Answer.{Answer}
use Rattle.store_run.proofs.Answered.{put_answered}
use Rattle.store_run.proofs.answers.answer_put.Goals as goal

pub returns : goal.returns
returns g c =
    subst (λ (r : Result Answer Stop). HasAnswered c.args.caller.now c.put-put.new.caller (PutFile c.args.file.now) r)
    (sym c.put_answer.ensures)
    (put_answered c.args.caller.now c.put-put.new.caller c.args.file.now c.put-put.result c.put-put.ensures.put)
