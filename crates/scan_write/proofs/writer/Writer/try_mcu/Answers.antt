use Rattle.std.proofs.Common.{◌≡◌, ◌+◌, List, true, Ok, Err, refl, sym, ap, subst, ◌∙◌}
use Rattle.std.proofs.lemmas.Result.{err_from_is_err_and}
use Rattle.bit_list.specs.Bits.{bytes_after, stuffed}
use Rattle.scan_spec.specs.Blocks.{blocks_text, dcs_after}
use Rattle.scan_spec.specs.Pads.{bit_for}
use Rattle.scan_spec.specs.ScanCalls.{ScanWriter, McuIsPutOn}
use Rattle.scan_spec.specs.Spots.{mcu_put}
use Rattle.scan_spec.specs.declared.slot.Slot.{Slot}
use Rattle.scan_write.specs.Appending.{IsAppended}
use Rattle.scan_write.specs.Outputs.{OutputState, output_of}
use Rattle.scan_write.specs.WriterInside.{writer_in}
use Rattle.scan_write.proofs.OutputLemmas.{appended_by_buffer}
use Rattle.scan_write.proofs.SpotWriting.{no_put, goes_on, closes}
use Rattle.scan_write.proofs.writer.Writer.try_mcu.Goals as goal

pub returns-in_err-done : goal.returns-in_err-done
returns-in_err-done c =
    let i = c.self.inside in
    let mcu = c.args.mcu.now in
    let out = c.args.out.now in
    let b = c.begun-output in
    let buffer = c.blocks-done.new in
    let stop = c.in_err-done.field-0.0 in
    let wrote = c.in_err-done.ensures.is in
    let all = appended_by_buffer i.output c.of-buffer.result buffer.output b.result wrote.0 out buffer.out b.new.out c.self.invariant.begun c.of-buffer.ensures.bits wrote.2 b.ensures.bytes b.ensures.begun in
    let text = subst (λ (slots : List Slot). blocks_text slots i.before mcu ≡ Err stop) c.slots.ensures.slots wrote.1 in
    let none = subst (λ (s : ScanWriter). mcu_put s.shape (bit_for s.pads) s.spot mcu ≡ Err stop) c.self.view_is (no_put (writer_in i) mcu stop text) in
    let p = err_from_is_err_and c.from_residual.result c.from_residual.ensures.1 in
    rw (p.1, p.2) (stuffed (bytes_after i.output wrote.0), none, ap (λ (o : OutputState). o.bytes) all, refl)

pub returns-then-is_closed : goal.returns-then-is_closed
returns-then-is_closed c =
    let i = c.self.inside in
    let mcu = c.args.mcu.now in
    let out = c.args.out.now in
    let b = c.begun-output in
    let buffer = c.blocks-done.new in
    let w = c.in_ok-done.ensures.is in
    let all = appended_by_buffer i.output c.of-buffer.result buffer.output b.result w.0 out buffer.out b.new.out c.self.invariant.begun c.of-buffer.ensures.bits w.2 b.ensures.bytes b.ensures.begun in
    let wrote = subst (λ (slots : List Slot). IsAppended (output_of i.output out) (output_of b.result b.new.out) (blocks_text slots i.before mcu)) c.slots.ensures.slots (w.0, w.1, all) in
    let dcs = subst (λ (slots : List Slot). buffer.before ≡ dcs_after slots i.before mcu) c.slots.ensures.slots c.in_ok-done.ensures.dcs in
    let closed = sym c.is_closed.ensures ∙ c.if-is_closed.true in
    subst (λ (s : ScanWriter). McuIsPutOn s mcu out (Ok true) c.close.new.self c.close.new.out) c.self.view_is
    (closes (writer_in i) mcu out b.new.out c.close.new.out b.result buffer.before c.close.new.self wrote dcs closed c.close.ensures.bytes c.close.ensures.is)

pub returns : goal.returns
returns c =
    let i = c.self.inside in
    let mcu = c.args.mcu.now in
    let out = c.args.out.now in
    let b = c.begun-output in
    let buffer = c.blocks-done.new in
    let w = c.in_ok-done.ensures.is in
    let all = appended_by_buffer i.output c.of-buffer.result buffer.output b.result w.0 out buffer.out b.new.out c.self.invariant.begun c.of-buffer.ensures.bits w.2 b.ensures.bytes b.ensures.begun in
    let wrote = subst (λ (slots : List Slot). IsAppended (output_of i.output out) (output_of b.result b.new.out) (blocks_text slots i.before mcu)) c.slots.ensures.slots (w.0, w.1, all) in
    let dcs = subst (λ (slots : List Slot). buffer.before ≡ dcs_after slots i.before mcu) c.slots.ensures.slots c.in_ok-done.ensures.dcs in
    let unclosed = sym c.is_closed.ensures ∙ c.if-is_closed.false in
    let writer = record (writer_in i) { spot = record { begun = b.result; before = buffer.before; count = i.count + 1 } } in
    subst (λ (s : ScanWriter). McuIsPutOn s mcu out (Ok true) writer b.new.out) c.self.view_is
    (goes_on (writer_in i) mcu out b.new.out b.result buffer.before wrote dcs unclosed)
