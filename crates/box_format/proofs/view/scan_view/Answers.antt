use Rattle.std.proofs.Common.{ap, ◌∙◌, sym, subst, arith}
use Rattle.box_format.specs.Versions.{layout_of}
use Rattle.box_format.specs.Parts.{BoxParts, IsScanBox, BoxSeen}
use Rattle.box_format.specs.Fields.{segments_at}
use Rattle.box_format.proofs.ScansSliced.{fields_there, scan_sliced, has_scan}
use Rattle.box_format.proofs.view.scan_view.Goals as goal

pub chunk_at-requires : goal.chunk_at-requires
chunk_at-requires c =
    let there = fields_there (layout_of c.args.version) c.args.bytes.now c.args.scan
    c.requires.whole.fields c.requires.scan in
    let is = c.fields_place-fields.ensures.value in
    omega (arith, there, is)

pub end_in-requires : goal.end_in-requires
end_in-requires c =
    let there = fields_there (layout_of c.args.version) c.args.bytes.now c.args.scan
    c.requires.whole.fields c.requires.scan in
    let is = c.fields_place-fields.ensures.value in
    omega (arith, there, is)

pub invariant_of-result : goal.invariant_of-result
invariant_of-result c =
    let bytes = c.args.bytes.now in
    record {
      scan = subst (λ (b : BoxParts). IsScanBox c.args.plan.now b)
          (sym (scan_sliced c.args.version bytes c.args.scan _ _ _ _ _ _ _ _ _ _
          c.fields_place-fields.ensures.value c.chunk_at.ensures c.byte_in.ensures c.list_at.ensures
          c.header_at.ensures c.trailer_at.ensures c.segments_at.ensures c.records_at.ensures
          c.end_in.ensures c.streams_at.ensures)) c.requires.is;
      whole = has_scan c.args.version bytes c.args.scan c.segments_at.result c.records_at.result.now
          c.streams_at.result.now c.requires.whole c.requires.scan
          (c.segments_at.ensures ∙ ap (segments_at bytes) c.fields_place-fields.ensures.value)
          c.records_at.ensures c.streams_at.ensures;
    }

pub returns : goal.returns
returns c =
    let bytes = c.args.bytes.now in
    let seen : BoxParts → BoxSeen = λ b. record { plan = c.args.plan.now; parts = b } in
    ap seen (scan_sliced c.args.version bytes c.args.scan _ _ _ _ _ _ _ _ _ _
    c.fields_place-fields.ensures.value c.chunk_at.ensures c.byte_in.ensures c.list_at.ensures
    c.header_at.ensures c.trailer_at.ensures c.segments_at.ensures c.records_at.ensures
    c.end_in.ensures c.streams_at.ensures)
