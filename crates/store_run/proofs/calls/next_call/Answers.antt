use Rattle.std.proofs.Common.{ℕ, [], ◌∷◌, Option, IfSome, subst}
use Rattle.std.specs.Io.KnownBytes.{Consumes}
use Rattle.std.proofs.KnownBytes.{Consumes-trans}
use Rattle.store_run.proofs.calls.next_call.Goals as goal

pub returns-in-Err-read_rest-clause-read : goal.returns-in-Err-read_rest-clause-read
returns-in-Err-read_rest-clause-read g c =
    let rest = c.in-Err-read_rest.ensures.read in
    let first : Consumes (g.S.Source.left c.args.source.now) (g.S.Source.left c.next_byte.new.source) (c.in-Ok-Some.mark ∷ []) =
    subst (λ (o : Option ℕ). IfSome o (λ (b : ℕ). Consumes (g.S.Source.left c.args.source.now) (g.S.Source.left c.next_byte.new.source) (b ∷ [])))
    c.in-Ok-Some.field-0-is c.in-Ok-Some.ensures.read in (
      c.in-Ok-Some.mark ∷ rest.0,
      Consumes-trans _ _ _ (c.in-Ok-Some.mark ∷ []) rest.0 first rest.1,
      rest.2,
    )
