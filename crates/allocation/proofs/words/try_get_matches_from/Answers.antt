use Rattle.std.proofs.Common.{◌≡◌, true, map, string_bytes, subst, sym}
use Rattle.std.proofs.lemmas.Result.{IfOk-weaker}
use Rattle.clap.specs.Words.{FailsBy, app_of, fault_of, is_simple_and_free}
use Rattle.allocation.proofs.words.try_get_matches_from.Goals as goal

pub returns-clause-kinds : goal.returns-clause-kinds
returns-clause-kinds c = IfOk-weaker c.told.result (λ same. same ≡ c.try_get_matches_from.result) _
    (λ _ same. subst (λ answer. is_simple_and_free (app_of c.args.command) ≡ true
    → FailsBy (fault_of (app_of c.args.command) (map string_bytes c.args.words.now)) answer)
    (sym same) c.try_get_matches_from.ensures.kinds)
    c.told.ensures.same
