use Rattle.std.proofs.Common.{◌≡◌, ◌<◌, ◌≤◌, ◌+◌, [], Ok, Err, ℤ, pos, length, drop, set, unsigned_abs, sym, ap, ◌∙◌, subst, arith}
use Rattle.std.proofs.lemmas.List.{length-set}
use Rattle.std.proofs.lemmas.List.Elements.{All-set}
use Rattle.std.proofs.lemmas.Result.{err_from_is_err_and}
use Rattle.std.specs.Int.{w16}
use mir.Val.{to_z, of_z}
use Rattle.scan_spec.specs.BlockBits.{Text, block_text}
use Rattle.scan_spec.specs.Blocks.{last_dc, dcs_after_block, blocks_text}
use Rattle.scan_spec.specs.PlainWriting.{HasPutPrefix, IsWritten}
use Rattle.scan_spec.specs.declared.plain.PlainError.{PlainError}
use Rattle.scan_spec.specs.declared.plain.PlainError.TheVariants.{Stop}
use Rattle.scan_spec.specs.declared.slot.Slot.{Slot}
use Rattle.scan_spec.proofs.Cuts.{next_block, no_block}
use Rattle.scan_spec.proofs.SignedValues.{kept_half}
use Rattle.scan_spec.proofs.Texts.{goes_more, goes_stop, goes_end}
use Rattle.scan_spec.proofs.Words.{value_is, dc_small}
use Rattle.scan_spec.proofs.plain.plain_blocks.Goals as goal

pub returns-in_err-put_block-clause-stop : goal.returns-in_err-put_block-clause-stop
returns-in_err-put_block-clause-stop c =
    let l = c.loop-i in
    let slots = c.args.slots.now in
    let blocks = c.args.blocks.now in
    let slot = c.index-slots-i.result in
    let block = c.index-blocks-i.result in
    let whole = blocks_text slots c.args.before blocks in
    let four : slot.component < 4 = subst (λ (s : Slot). s.component < 4) (sym c.index-slots-i.is) (c.requires.slots l.i slot c.loop-i-test.true) in
    let there : slot.component < length l.last = omega (arith, l.invariant.size) in
    let kept = kept_half (last_dc l.last slot) (l.invariant.small slot.component (pos 0) there) in
    let text = block_text slot.codes (last_dc l.last slot) block in
    let rest = blocks_text (drop (l.i + 1) slots) (dcs_after_block l.last slot block) (drop (l.i + 1) blocks) in
    let at = subst (λ (t : Text). HasPutPrefix whole [] l.bits.items t) (next_block slots l.last blocks l.i slot block c.loop-i-test.true c.requires.long c.index-slots-i.is c.index-blocks-i.is) l.invariant.goes in
    let wrote = subst (λ (dc : ℤ). IsWritten (Err c.in_err-put_block.field-0.0) l.bits.items c.put_block.new.bits.items (block_text slot.codes dc block)) kept c.in_err-put_block.ensures in
    let stopped = goes_stop whole [] l.bits.items c.put_block.new.bits.items text rest c.in_err-put_block.field-0.0 at wrote in
    let p = err_from_is_err_and c.from_residual.result c.from_residual.ensures.1 in
    λ stop is.
    let same : c.in_err-put_block.field-0.0 ≡ Stop stop = cc in
    subst (λ (e : PlainError). IsWritten (Err e) [] c.put_block.new.bits.items whole) same stopped

pub loop-i-preserved : goal.loop-i-preserved
loop-i-preserved c =
    let l = c.loop-i in
    let slots = c.args.slots.now in
    let blocks = c.args.blocks.now in
    let slot = c.index-slots-i.result in
    let block = c.index-blocks-i.result in
    let whole = blocks_text slots c.args.before blocks in
    let four : slot.component < 4 = subst (λ (s : Slot). s.component < 4) (sym c.index-slots-i.is) (c.requires.slots l.i slot c.loop-i-test.true) in
    let there : slot.component < length l.last = omega (arith, l.invariant.size) in
    let kept = kept_half (last_dc l.last slot) (l.invariant.small slot.component (pos 0) there) in
    let text = block_text slot.codes (last_dc l.last slot) block in
    let rest = blocks_text (drop (l.i + 1) slots) (dcs_after_block l.last slot block) (drop (l.i + 1) blocks) in
    let at = subst (λ (t : Text). HasPutPrefix whole [] l.bits.items t) (next_block slots l.last blocks l.i slot block c.loop-i-test.true c.requires.long c.index-slots-i.is c.index-blocks-i.is) l.invariant.goes in
    let wrote = subst (λ (dc : ℤ). IsWritten (Ok tt) l.bits.items c.put_block.new.bits.items (block_text slot.codes dc block)) kept c.in_ok-put_block.ensures in
    let dc = kept_half c.get.result (dc_small c.get.result c.get.ensures.coefficient) in
    let next = dc ∙ sym (value_is block 0 c.get.result c.get.ensures.value) in
    let bound = subst (λ (z : ℤ). unsigned_abs z ≤ 32767) (sym dc) (dc_small c.get.result c.get.ensures.coefficient) in
    record {
      size = length-set l.last slot.component (to_z w16 (of_z w16 c.get.result)) ∙ l.invariant.size;
      small = All-set (λ (z : ℤ). unsigned_abs z ≤ 32767) l.last slot.component (to_z w16 (of_z w16 c.get.result)) bound l.invariant.small;
      goes = subst (λ (z : ℤ). HasPutPrefix whole [] c.put_block.new.bits.items (blocks_text (drop (l.i + 1) slots) (set l.last slot.component z) (drop (l.i + 1) blocks))) (sym next)
          (goes_more whole [] l.bits.items c.put_block.new.bits.items text rest tt at wrote);
    }

pub returns-clause-bits : goal.returns-clause-bits
returns-clause-bits c =
    let l = c.loop-i in
    let slots = c.args.slots.now in
    let blocks = c.args.blocks.now in
    let whole = blocks_text slots c.args.before blocks in
    let at = subst (λ (t : Text). HasPutPrefix whole [] l.bits.items t) (no_block slots l.last blocks l.i c.loop-i-test.false) l.invariant.goes in
    let done = goes_end whole [] l.bits.items tt at in
    done.1 ∙ ap Ok (sym done.2)
