use Rattle.std.proofs.Common.{◌∙◌, sym, inl, inr}
use Rattle.command_words.proofs.LeptonLemmas.{app_is_exact, app_is_plain, faults_are, given_is, some_kind}
use Rattle.command_words.proofs.command.parsed.Goals as goal

pub returns-in-Ok-clause-taken : goal.returns-in-Ok-clause-taken
returns-in-Ok-clause-taken c =
    let kinds = rw c.in-Ok.is at c.in_ok-answer.ensures.kinds (app_is_exact _ c.in_ok-known.ensures) in
    sym (faults_are _ _ c.in_ok-known.ensures) ∙ kinds

pub returns-in-Ok-clause-matches : goal.returns-in-Ok-clause-matches
returns-in-Ok-clause-matches c =
    let matches = rw c.in-Ok.is at c.in_ok-answer.ensures.matches in
    (matches (app_is_plain _ c.in_ok-known.ensures)).1 ∙ given_is _ _ c.in_ok-known.ensures

pub returns-clause-refused : goal.returns-clause-refused
returns-clause-refused c = λ is none.
    let kinds = rw c.in-Err.is at c.in_ok-answer.ensures.kinds (app_is_exact _ c.in_ok-known.ensures) in
    let other = rw c.in-Err.is at c.in_ok-answer.ensures.refused in
    elim kinds [
      | inl memory ↦ absurd (other memory)
      | inr among ↦ some_kind _ _ among (faults_are _ _ c.in_ok-known.ensures ∙ none)
    ]
