use Rattle.std.proofs.Common.{◌≤◌, sym, ap, subst, ◌∙◌}
use Rattle.std.specs.Prelude.{slice_index}
use Rattle.coef_block.specs.BlockRows.{Extents, block_count}
use Rattle.block_spec.specs.Grid.{Grid}
use Rattle.segment_code.proofs.GridsOfPlans.{has_grid}
use Rattle.segment_code.proofs.SlotsOfGrid.{slots_of_grid}
use Rattle.segment_code.proofs.grid.grid_of.Goals as goal

pub new-requires-clause-narrow : goal.new-requires-clause-narrow
new-requires-clause-narrow c = rw (c.across.ensures) (has_grid c.args.plan.now c.mcu_extents.ensures.kept).narrow

pub new-requires-clause-wide : goal.new-requires-clause-wide
new-requires-clause-wide c = λ n below.
    let e = c.mcu_extents.ensures.value in
    subst (λ (x : Extents). slice_index x.widths n ≤ 4) (sym e) ((has_grid c.args.plan.now c.mcu_extents.ensures.kept).wide n below)

pub new-requires-clause-high : goal.new-requires-clause-high
new-requires-clause-high c = λ n below.
    let e = c.mcu_extents.ensures.value in
    subst (λ (x : Extents). slice_index x.heights n ≤ 4) (sym e) ((has_grid c.args.plan.now c.mcu_extents.ensures.kept).high n below)

pub new-requires-clause-some : goal.new-requires-clause-some
new-requires-clause-some c =
    let e = c.mcu_extents.ensures.value in
    subst (λ (x : Extents). 1 ≤ block_count x) (sym e) (has_grid c.args.plan.now c.mcu_extents.ensures.kept).some

pub new-requires-clause-few : goal.new-requires-clause-few
new-requires-clause-few c =
    let e = c.mcu_extents.ensures.value in
    subst (λ (x : Extents). block_count x ≤ 10) (sym e) (has_grid c.args.plan.now c.mcu_extents.ensures.kept).few

pub returns-clause-blocks : goal.returns-clause-blocks
returns-clause-blocks c =
    let is = c.mcu_extents.ensures.kept in
    let e = c.mcu_extents.ensures.value in
    slots_of_grid c.args.plan.now is ∙ ap block_count (sym e)
    ∙ ap (λ (g : Grid). block_count g.mcu) (sym c.new.ensures)
