use Rattle.std.proofs.Common.{ℕ, List, ◌++◌, ◌∙◌, ap, sym, subst}
use Rattle.sample_jpeg.specs.declared.extent.Extent.{Extent}
use Rattle.sample_jpeg.specs.SampleHeader.{IsExtent, sample_header}
use Rattle.sample_jpeg.proofs.DrawnTurns.{sample_done}
use Rattle.sample_jpeg.proofs.file.sample.Goals as goal

pub returns : goal.returns
returns c =
    let extent : IsExtent c.of-extent.result = subst (λ (e : Extent). IsExtent e) (sym c.of-extent.ensures) c.requires in
    sample_done c.args.seed c.args.columns c.args.rows c.of-extent.result c.new-file.result.items _ _ _ c.plan_of-plan.result _ c.mcus.result c.new-draws.result.state
    c.requires c.of-extent.ensures c.new-file.ensures.items c.in_ok-put_header.ensures
    (c.plan_of-plan.ensures c.of-extent.result extent
    (c.deref.ensures.value ∙ c.in_ok-put_header.ensures ∙ ap (λ (l : List ℕ). l ++ sample_header c.of-extent.result) c.new-file.ensures.items)) c.start-writer.ensures c.mcus.ensures.value c.new-draws.ensures c.in_ok-put_mcus.ensures
    c.in_ok-extend_from_slice.ensures.items
