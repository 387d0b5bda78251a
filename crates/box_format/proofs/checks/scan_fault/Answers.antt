use Rattle.std.proofs.Common.{ℕ, true, false, refl, ap, sym, ◌∙◌, arith}
use Rattle.std.specs.Prelude.{slice_index}
use Rattle.box_format.specs.Versions.{layout_of}
use Rattle.box_format.specs.Fields.{scan_raw}
use Rattle.box_format.specs.Checks.{is_bad_chunk}
use Rattle.box_format.specs.declared.version.Layout.{Layout}
use Rattle.box_format.proofs.ScansFaults.{bad_chunk_is, bad_pad_is, fault_is}
use Rattle.box_format.proofs.ScansSliced.{fields_there}
use Rattle.box_format.proofs.checks.scan_fault.Goals as goal

pub chunk_at-requires : goal.chunk_at-requires
chunk_at-requires c =
    let there = fields_there (layout_of c.args.version) c.args.bytes.now c.args.scan
    c.requires.whole.fields c.requires.scan in
    let is = c.fields_place-fields.ensures.value in
    omega (arith, there, is)

pub returns-then-is_bad_chunk : goal.returns-then-is_bad_chunk
returns-then-is_bad_chunk c =
    let bytes = c.args.bytes.now in
    let v = c.args.version in
    let j = c.args.scan in
    let plan = c.args.plan.now in
    let at = c.fields_place-fields.ensures.value in
    let chunk = bad_chunk_is v bytes j _ plan _ _ _ true c.header_at-header.ensures
    c.trailer_at-trailer.ensures c.chunk_at.ensures at
    (sym (c.is_bad_chunk.ensures ∙ ap (λ (d : ℕ). is_bad_chunk d c.header_at-header.result.now
    c.trailer_at-trailer.result.now c.chunk_at.result) c.down.ensures) ∙ c.if-is_bad_chunk.true) in
    fault_is c.args.first plan (scan_raw v bytes j) true _ chunk refl

pub returns-then-is_bad_pad : goal.returns-then-is_bad_pad
returns-then-is_bad_pad c =
    let bytes = c.args.bytes.now in
    let v = c.args.version in
    let j = c.args.scan in
    let plan = c.args.plan.now in
    let at = c.fields_place-fields.ensures.value in
    let chunk = bad_chunk_is v bytes j _ plan _ _ _ false c.header_at-header.ensures
    c.trailer_at-trailer.ensures c.chunk_at.ensures at
    (sym (c.is_bad_chunk.ensures ∙ ap (λ (d : ℕ). is_bad_chunk d c.header_at-header.result.now
    c.trailer_at-trailer.result.now c.chunk_at.result) c.down.ensures) ∙ c.if-is_bad_chunk.false) in
    let pad = bad_pad_is v bytes j _ _ plan _ true
    (ap (λ (l : Layout). l.listed) c.layout-listed.ensures.value)
    (c.byte_in.ensures ∙ ap (slice_index bytes) at) c.list_at.ensures
    (sym c.is_bad_pad.ensures ∙ c.if-is_bad_pad.true) in
    fault_is c.args.first plan (scan_raw v bytes j) false true chunk pad

pub returns-else-is_bad_pad : goal.returns-else-is_bad_pad
returns-else-is_bad_pad c =
    let bytes = c.args.bytes.now in
    let v = c.args.version in
    let j = c.args.scan in
    let plan = c.args.plan.now in
    let at = c.fields_place-fields.ensures.value in
    let chunk = bad_chunk_is v bytes j _ plan _ _ _ false c.header_at-header.ensures
    c.trailer_at-trailer.ensures c.chunk_at.ensures at
    (sym (c.is_bad_chunk.ensures ∙ ap (λ (d : ℕ). is_bad_chunk d c.header_at-header.result.now
    c.trailer_at-trailer.result.now c.chunk_at.result) c.down.ensures) ∙ c.if-is_bad_chunk.false) in
    let pad = bad_pad_is v bytes j _ _ plan _ false
    (ap (λ (l : Layout). l.listed) c.layout-listed.ensures.value)
    (c.byte_in.ensures ∙ ap (slice_index bytes) at) c.list_at.ensures
    (sym c.is_bad_pad.ensures ∙ c.if-is_bad_pad.false) in
    c.record_fault.ensures ∙ fault_is c.args.first plan (scan_raw v bytes j) false false chunk pad
