use Rattle.std.proofs.Common.{rules, ◌≡◌, length}
use Rattle.coef_block.specs.BlockRows.{extents_of, block_count}
use Rattle.block_spec.specs.HeldRows.{FitsGrid}
use Rattle.block_spec.proofs.Keeping.{none_kept}
use Rattle.block_code.proofs.McuCells.{row_extents, row_few, none_before}
use Rattle.block_code.proofs.mcu.SegmentRows.new.Goals as goal

pub new-requires-clause-few : goal.new-requires-clause-few
new-requires-clause-few c =
    let wide : length c.row_widths-widths.result ≡ 4 = search rules in
    let high : length c.heights-heights.result ≡ 4 = search rules in
    let fits = row_extents c.row_widths-widths.result c.heights-heights.result c.args.grid wide high c.heights-heights.ensures.heights c.row_widths-widths.ensures.widths in
    row_few (extents_of c.row_widths-widths.result c.heights-heights.result) c.args.grid fits c.heights-heights.ensures.narrow c.heights-heights.ensures.few

pub returns-clause-held : goal.returns-clause-held
returns-clause-held c =
    let wide : length c.row_widths-widths.result ≡ 4 = search rules in
    let high : length c.heights-heights.result ≡ 4 = search rules in
    let fits : FitsGrid c.in_ok-rows.rows.extents c.args.grid =
    rw (c.in_ok-rows.ensures.extents) (row_extents c.row_widths-widths.result c.heights-heights.result c.args.grid wide high c.heights-heights.ensures.heights c.row_widths-widths.ensures.widths) in
    record {
      row = 0;
      count = none_before c.args.grid.across (block_count c.args.grid.mcu);
      held = none_kept c.in_ok-rows.rows c.args.grid fits c.in_ok-rows.ensures.cleared;
    }
