use Rattle.std.proofs.Common.{◌≡◌, length, ap, ◌∙◌, sym, subst}
use Rattle.std.specs.Prelude.{Err}
use Rattle.std.proofs.lemmas.Result.{err_from_is_err_and}
use Rattle.scan_spec.specs.Slots.{Shape}
use Rattle.container_spec.specs.ScanStream.{blocks_of}
use Rattle.segment_code.specs.declared.error.ScanError.TheVariants.{Scan, NoMemory}
use Rattle.segment_code.proofs.ScansCoded.{stream_is, stream_told, is_memory}
use Rattle.segment_code.proofs.segment_stream.code_over.Goals as goal

pub code_mcus-requires-clause-slots : goal.code_mcus-requires-clause-slots
code_mcus-requires-clause-slots c =
    ap (λ (s : Shape). length s.slots) c.requires.shape ∙ c.requires.slots

pub returns-clause-coded : goal.returns-clause-coded
returns-clause-coded c =
    let so = c.in_ok-code_mcus.ensures.coded in
    let fresh = c.new.ensures.fresh c.requires.fresh c.over-encoder.ensures in
    let put = rw (c.requires.grid) at (stream_is c.new.result c.code_mcus.new.coder
    c.args.segment.now.grid (blocks_of so.0) fresh so.1.put) in
    let name = sym (so.1.put.puts.same_encoder ∙ c.new.ensures.same_encoder) in
    let back = c.encoder-2-1.given.1 name in
    let stream = rw (back ∙ c.drop-new-2.ensures.encoder ∙ put) at c.in_ok-finish.ensures.stream in
    (so.0, so.1.blocks, so.1.on, stream ∙ stream_told c.args.plan.now so.0)

pub returns-in_err-code_mcus-clause-refused : goal.returns-in_err-code_mcus-clause-refused
returns-in_err-code_mcus-clause-refused c =
    let p = err_from_is_err_and c.from_residual.result
    c.from_residual.ensures.1 in
    rw (p.1, p.2) (λ refusal is.
    let cause : c.in_err-code_mcus.field-0.0 ≡ Scan refusal = cc in
    c.in_err-code_mcus.ensures.refused refusal (ap (λ error. Err error) cause))

pub returns-in_err-finish-clause-refused : goal.returns-in_err-finish-clause-refused
returns-in_err-finish-clause-refused c =
    let p = err_from_is_err_and c.from_residual-in_err-finish.result
    c.from_residual-in_err-finish.ensures.1 in
    rw (p.1, p.2) (λ refusal is. let cause : NoMemory c.in_err-finish.field-0.0 ≡ Scan refusal = cc in
    absurd (subst is_memory cause tt))
