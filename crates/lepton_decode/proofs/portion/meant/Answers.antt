use Rattle.std.proofs.Common.{◌∙◌, ap, sym, None, Some}
use Rattle.container_spec.specs.declared.kind.Kind.TheVariants as kinds
use Rattle.container_spec.specs.Portions.{Portion, portion_meaning}
use Rattle.lepton_decode.proofs.PortionsMade.{meant_by}
use Rattle.lepton_decode.proofs.portion.meant.Goals as goal

pub returns-in-None-clause-meaning : goal.returns-in-None-clause-meaning
returns-in-None-clause-meaning c =
    ap (λ (p : Portion). portion_meaning kinds.File c.args.view.now p) c.whole.ensures
    ∙ meant_by c.args.view.now None (sym c.in-None.is ∙ c.only_chunk.ensures)

pub returns-in-Some-clause-meaning : goal.returns-in-Some-clause-meaning
returns-in-Some-clause-meaning c =
    ap (λ (p : Portion). portion_meaning (kinds.Chunk c.in-Some.chunk) c.args.view.now p) c.chunk_portion.ensures
    ∙ meant_by c.args.view.now (Some c.in-Some.chunk) (sym c.in-Some.is ∙ c.only_chunk.ensures)
