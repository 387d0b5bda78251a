use Rattle.std.proofs.Common.{subst}
use Rattle.std.specs.declared.result.Result.TheVariants.{Ok}
use Rattle.photo_store.specs.Photos.{FindGives}
use Rattle.photo_store.specs.declared.answers.Find.{Find}
use Rattle.store_run.proofs.Answered.{find_stopped, found_answered, missing_answered, unshown_answered}
use Rattle.store_run.proofs.answers.answer_find.Goals as goal

pub returns-in-Ok : goal.returns-in-Ok
returns-in-Ok g c =
    found_answered c.args.caller.now c.find.new.caller c.args.key c.in-Ok-Found.ticket c.in-Ok-Found.field-0-1 c.in-Ok.file
    (subst (λ (f : Find). FindGives c.args.caller.now c.find.new.caller c.args.key (Ok f)) c.in-Ok-Found.field-0-is c.in-Ok-Found.ensures.find)
    c.in-Ok.ensures.shown

pub returns-in-Ok-Missing : goal.returns-in-Ok-Missing
returns-in-Ok-Missing g c =
    missing_answered c.args.caller.now c.find.new.caller c.args.key c.in-Ok-Missing.field-0-0
    (subst (λ (f : Find). FindGives c.args.caller.now c.find.new.caller c.args.key (Ok f)) c.in-Ok-Missing.field-0-is c.in-Ok-Missing.ensures.find)

pub returns : goal.returns
returns g c = find_stopped c.args.caller.now c.find.new.caller c.args.key c.in-Err.stop c.in-Err.ensures.find

pub returns-in-Ok-Found : goal.returns-in-Ok-Found
returns-in-Ok-Found g c =
    unshown_answered c.args.caller.now c.find.new.caller c.args.key c.in-Ok-Found.ticket c.in-Ok-Found.field-0-1 c.in-Err-show.short
    (subst (λ (f : Find). FindGives c.args.caller.now c.find.new.caller c.args.key (Ok f)) c.in-Ok-Found.field-0-is c.in-Ok-Found.ensures.find)
