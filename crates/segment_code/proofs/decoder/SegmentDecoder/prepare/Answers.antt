use Rattle.std.proofs.Common.{◌+◌, ◌≤◌, length, sym, ap, ◌∙◌, arith}
use Rattle.std.proofs.lemmas.List.{length-replicate}
use Rattle.coef_block.specs.BlockRows.{block_count}
use Rattle.block_spec.specs.Grid.{Grid}
use Rattle.scan_spec.specs.ScanCalls.{ScanWriter}
use Rattle.adapt_bins.specs.Counts.{unseen}
use Rattle.segment_code.proofs.decoder.SegmentDecoder.prepare.Goals as goal

pub invariant_of-result : goal.invariant_of-result
invariant_of-result c =
    let bins = ap length (c.new-coder.ensures.bins ∙ c.in_ok-new.ensures) in
    let count = length-replicate 82744 unseen in
    let mcus = ap (λ (w : ScanWriter). w.spot.count) c.start-writer.ensures in
    let some : c.start-writer.result.spot.count + 0 ≤ c.start-writer.result.shape.mcus =
    omega (arith, mcus) in
    record {
      bins = omega (arith, bins, count);
      grid = c.in_ok-segment.ensures.grid ∙ c.grid_of.ensures.value;
      shape = ap (λ (w : ScanWriter). w.shape) c.start-writer.ensures;
      blocks = ap (λ (w : ScanWriter). length w.shape.slots) c.start-writer.ensures
          ∙ c.grid_of.ensures.blocks
          ∙ ap (λ (g : Grid). block_count g.mcu) (sym c.in_ok-segment.ensures.grid);
      within = some;
      bounded = omega arith;
    }
