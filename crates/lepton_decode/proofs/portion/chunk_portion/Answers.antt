use Rattle.std.proofs.Common.{◌∙◌, ap, refl, sym}
use Rattle.box_format.specs.Parts.{header_part}
use Rattle.lepton_decode.proofs.PortionsMade.{part_cut}
use Rattle.lepton_decode.proofs.portion.chunk_portion.Goals as goal

pub returns : goal.returns
returns c =
    let before = c.cut-before.ensures ∙ part_cut c.args.chunk c.header.result.now
    ∙ ap (header_part c.args.chunk) (c.header.ensures.bytes ∙ sym c.first_scan.ensures.header) in
    rw (c.saturating_sub.ensures, before, c.trailer-after.ensures.bytes, c.segments.ensures.count) refl
