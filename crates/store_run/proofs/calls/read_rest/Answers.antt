use Rattle.std.proofs.Common.{◌≡◌, ◌⊎◌, ℕ, ◌∷◌, inl, inr, subst, arith}
use Rattle.std.specs.declared.result.Result.TheVariants.{Err}
use Rattle.store_run.specs.Reading.{IsRead}
use Rattle.store_run.specs.Records.{find_mark, put_mark, remove_mark}
use Rattle.store_run.proofs.RecordsRead.{key_cut}
use Rattle.store_run.proofs.calls.read_rest.Goals as goal
use Rattle.store_run.proofs.calls.read_rest.Goals.{else-mark-ne-FIND-via-then-mark-ne-FIND+else-mark-ne-REMOVE, else-mark-ne-FIND-via-else-mark-ne-FIND}

pub returns-in-Err-clause-read : goal.returns-in-Err-clause-read
returns-in-Err-clause-read g c =
    let part = c.in-Err.ensures.stop in
    let mark : put_mark ≡ c.args.mark = omega (arith, c.if-mark-eq-PUT.true) in (
      part.0,
      part.1,
      subst (λ (m : ℕ). IsRead (m ∷ part.0) (g.S.Source.left c.read_file.new.source) (Err c.in-Err.stop)) mark part.2,
    )

pub returns-in-Err-read_key-clause-read : goal.returns-in-Err-read_key-clause-read
returns-in-Err-read_key-clause-read g c =
    let part = c.in-Err-read_key.ensures.stop in
    let mark : (c.args.mark ≡ find_mark) ⊎ (c.args.mark ≡ remove_mark) = elim c.else-mark-ne-FIND.branch [
      | else-mark-ne-FIND-via-then-mark-ne-FIND+else-mark-ne-REMOVE w ↦ inr (omega (arith, w.if-mark-ne-REMOVE.false))
      | else-mark-ne-FIND-via-else-mark-ne-FIND w ↦ inl (omega (arith, w.if-mark-ne-FIND.false))
    ] in
    (part.0, part.1, key_cut c.args.mark part.0 _ c.in-Err-read_key.stop mark part.2 part.3)
