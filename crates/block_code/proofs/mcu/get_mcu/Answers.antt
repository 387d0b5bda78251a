use Rattle.std.proofs.Common.{◌≡◌, ◌++◌, length, ◌∙◌}
use Rattle.coef_block.specs.BlockRows.{block_count}
use Rattle.block_code.proofs.McuSteps.{mcu_more}
use Rattle.block_code.proofs.mcu.get_mcu.Goals as goal

pub returns-clause-held : goal.returns-clause-held
returns-clause-held c = λ done held.
    let h = rw (← c.segment.view_is) at held in
    let some : length c.get_blocks.new.out ≡ block_count c.segment.inside.grid.mcu = c.in_ok-get_blocks.ensures.length ∙ (rw (← c.segment.view_is) at c.requires.blocks) in
    let got = c.in_ok-get_blocks.ensures.held done h.row h.count h.held in
    c.advance.ensures.next (done ++ c.get_blocks.new.out) h.row (mcu_more done c.get_blocks.new.out h.row c.segment.inside.grid.across c.segment.inside.before (block_count c.segment.inside.grid.mcu) h.count some) got
