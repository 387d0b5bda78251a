use Rattle.std.proofs.Common.{ℕ, ◌<◌, sym, subst}
use Rattle.scan_spec.specs.Pads.{HasBit, pads_given}
use Rattle.scan_spec.specs.ScanCalls.{ScanWriter}
use Rattle.scan_spec.proofs.PadLists.{has_bit}
use Rattle.scan_write.proofs.writer.Writer.close.Goals as goal

pub bit-requires : goal.bit-requires
bit-requires c =
    let i = c.self.inside in
    let below = subst (λ (w : ScanWriter). w.spot.count < w.shape.mcus) (sym c.self.view_is) c.requires.more in
    subst (λ (n : ℕ). HasBit (pads_given i.pads) n) (sym c.interval_number-number.ensures) (has_bit (pads_given i.pads) i.shape i.count c.self.invariant.pads below)

pub sum-requires : goal.sum-requires
sum-requires c =
    let i = c.self.inside in
    let below = subst (λ (w : ScanWriter). w.spot.count < w.shape.mcus) (sym c.self.view_is) c.requires.more in
    subst (λ (n : ℕ). HasBit (pads_given i.pads) n) (sym c.interval_number-number.ensures) (has_bit (pads_given i.pads) i.shape i.count c.self.invariant.pads below)
