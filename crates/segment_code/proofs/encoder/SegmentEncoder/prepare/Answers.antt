use Rattle.std.proofs.Common.{length, sym, ap, ◌∙◌, arith}
use Rattle.std.proofs.lemmas.List.{length-replicate}
use Rattle.coef_block.specs.BlockRows.{block_count}
use Rattle.block_spec.specs.Grid.{Grid}
use Rattle.adapt_bins.specs.Counts.{unseen}
use Rattle.segment_code.proofs.encoder.SegmentEncoder.prepare.Goals as goal

pub returns : goal.returns
returns c =
    let bins = ap length c.in_ok-new-2.ensures in
    let count = length-replicate 82744 unseen in
    record {
      grid = c.in_ok-new.ensures.grid ∙ c.grid_of.ensures.value;
      blocks = c.grid_of.ensures.blocks
          ∙ sym (ap (λ (g : Grid). block_count g.mcu) c.in_ok-new.ensures.grid);
      bins = omega (arith, bins, count);
    }
