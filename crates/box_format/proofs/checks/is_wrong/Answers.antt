use Rattle.std.proofs.Common.{ℕ, sym, ap, ap₂, ◌∙◌, arith}
use Rattle.std.specs.Prelude.{Option}
use Rattle.box_format.specs.Parts.{box_cut}
use Rattle.box_format.specs.Checks.{are_wrong}
use Rattle.box_format.specs.Versions.{layout_of}
use Rattle.box_format.specs.Fields.{segments_at}
use Rattle.box_format.specs.declared.chunk.Chunk.{Chunk}
use Rattle.box_format.proofs.ScansFaults.{chunk_is, handover_count}
use Rattle.box_format.proofs.ScansSliced.{fields_there}
use Rattle.box_format.proofs.checks.is_wrong.Goals as goal

pub chunk_at-chunk-requires : goal.chunk_at-chunk-requires
chunk_at-chunk-requires c =
    let there = fields_there (layout_of c.args.version) c.args.bytes.now c.args.scan
    c.requires.whole.fields c.requires.scan in
    let is = c.fields_place-fields.ensures.value in
    omega (arith, there, is)

pub returns : goal.returns
returns c =
    let bytes = c.args.bytes.now in
    let v = c.args.version in
    let at = c.fields_place-fields.ensures.value in
    c.are_wrong.ensures
    ∙ ap₂ (λ (k : Option Chunk) (n : ℕ). are_wrong (layout_of v).most (box_cut c.args.plan.now k n))
    (c.chunk_at-chunk.ensures ∙ chunk_is v bytes c.args.scan _ at)
    (c.segments_at.ensures ∙ ap (segments_at bytes) at ∙ sym (handover_count v bytes c.args.scan))
