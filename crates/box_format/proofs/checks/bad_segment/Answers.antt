use Rattle.std.proofs.Common.{◌<◌, ℕ, ◌*◌, List, length, sym, ap, ap₂, ◌∙◌, subst, arith}
use Rattle.std.specs.Prelude.{IfSome, Option}
use Rattle.scan_spec.specs.Slots.{shape_of}
use Rattle.handover.specs.Handovers.{HandoverFields}
use Rattle.box_format.specs.Parts.{bad_start, box_cut}
use Rattle.box_format.specs.Versions.{layout_of}
use Rattle.box_format.specs.Slices.{handovers_in}
use Rattle.box_format.specs.Fields.{segments_at}
use Rattle.box_format.specs.declared.chunk.Chunk.{Chunk}
use Rattle.box_format.proofs.ScansFaults.{chunk_is, handover_count, handovers_are, records_there}
use Rattle.box_format.proofs.ScansSliced.{fields_there}
use Rattle.box_format.proofs.checks.bad_segment.Goals as goal

pub chunk_at-requires : goal.chunk_at-requires
chunk_at-requires c =
    let there = fields_there (layout_of c.args.version) c.args.bytes.now c.args.scan
    c.requires.whole.fields c.requires.scan in
    let is = c.fields_place-fields.ensures.value in
    omega (arith, there, is)

pub first_bad_segment-requires : goal.first_bad_segment-requires
first_bad_segment-requires c =
    let bytes = c.args.bytes.now in
    let l = layout_of c.args.version in
    let there = records_there c.args.version bytes c.args.scan c.requires.whole c.requires.scan in
    let long = ap (λ (l : List ℕ). length l) c.records_at.ensures in
    let count = ap (λ (n : ℕ). l.room * n) (c.segments_at.ensures
    ∙ ap (segments_at bytes) c.fields_place-fields.ensures.value) in
    omega (arith, there, long, count)

pub returns-clause-value : goal.returns-clause-value
returns-clause-value c =
    let bytes = c.args.bytes.now in
    let v = c.args.version in
    let j = c.args.scan in
    let plan = c.args.plan.now in
    let at = c.fields_place-fields.ensures.value in
    let count = c.segments_at.ensures ∙ ap (segments_at bytes) at in
    let handovers = ap₂ (handovers_in v) count c.records_at.ensures ∙ sym (handovers_are v bytes j) in
    let cut = ap₂ (λ (k : Option Chunk) (n : ℕ). box_cut plan k n)
    (c.chunk_at.ensures ∙ chunk_is v bytes j _ at) (count ∙ sym (handover_count v bytes j)) in
    c.first_bad_segment.ensures.value
    ∙ ap₂ (λ k (hs : List HandoverFields). bad_start (shape_of plan) k 0 hs) cut handovers

pub returns-clause-within : goal.returns-clause-within
returns-clause-within c =
    let bytes = c.args.bytes.now in
    let count = c.segments_at.ensures ∙ ap (segments_at bytes) c.fields_place-fields.ensures.value in
    subst (λ (n : ℕ). IfSome c.first_bad_segment.result (λ segment. segment < n))
    (count ∙ sym (handover_count c.args.version bytes c.args.scan)) c.first_bad_segment.ensures.within
