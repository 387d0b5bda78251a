use Rattle.std.proofs.Common.{◌≤◌, ◌+◌, map, drop, get_or, List, ℤ, pos, unsigned_abs, sym, ap, subst, ◌∙◌, arith}
use Rattle.std.proofs.lemmas.List.{length-set}
use Rattle.std.proofs.lemmas.List.Elements.{All-set}
use Rattle.std.proofs.lemmas.Result.{err_from_is_err_and}
use Rattle.scan_spec.specs.BlockBits.{Text, block_text}
use Rattle.scan_spec.specs.Blocks.{dcs_after_block, dcs_after, blocks_text}
use Rattle.scan_spec.specs.ShapeInside.{slot_in}
use Rattle.scan_spec.proofs.SignedValues.{kept_half}
use Rattle.scan_write.specs.Outputs.{output_with}
use Rattle.scan_write.specs.Appending.{HasAppended}
use Rattle.scan_write.proofs.AppendedTexts.{texts_more, texts_stop, texts_end}
use Rattle.scan_write.proofs.McuWriting.{is_slot_at, block_due, next_dcs, no_text, no_dcs_more, slot_dcs}
use Rattle.scan_write.proofs.SmallNumbers.{half}
use Rattle.scan_write.proofs.blocks.blocks.Goals as goal

pub returns-in_err-before-clause-is : goal.returns-in_err-before-clause-is
returns-in_err-before-clause-is c =
    let l = c.loop-i in
    let codes = c.args.codes.now in
    let slots = c.args.slots.now in
    let mcu = c.args.mcu.now in
    let component = c.from-component.result in
    let tables = c.index-codes-component.result in
    let block = c.index-mcu-i.result in
    let whole = blocks_text (map (slot_in codes) slots) c.args.before.now mcu in
    let old = output_with c.args.output.now c.args.out.now in
    let now = output_with l.output l.out in
    let new = output_with c.block.new.output c.block.new.out in
    let text = block_text tables (half (get_or l.before component (pos 0))) block in
    let rest = blocks_text (map (slot_in codes) (drop (l.i + 1) slots)) (dcs_after_block l.before (slot_in codes (get_or slots l.i 0)) block) (drop (l.i + 1) mcu) in
    let at =
    is_slot_at codes slots l.i component tables l.before c.loop-i-test.true c.requires.few l.invariant.four c.requires.slots l.invariant.small c.from-component.ensures c.index-codes-component.is in
    let due = block_due codes slots l.i component tables l.before block mcu whole old now at c.loop-i-test.true c.requires.long c.index-mcu-i.is l.invariant.going in
    let p = err_from_is_err_and c.from_residual.result c.from_residual.ensures.1 in
    rw (p.1, p.2) (texts_stop whole old now new text rest c.in_err-before.field-0.0 due c.in_err-before.ensures.is)

pub loop-i-preserved : goal.loop-i-preserved
loop-i-preserved c =
    let l = c.loop-i in
    let codes = c.args.codes.now in
    let slots = c.args.slots.now in
    let mcu = c.args.mcu.now in
    let component = c.from-component.result in
    let tables = c.index-codes-component.result in
    let block = c.index-mcu-i.result in
    let dc = c.in_ok-before.field-0 in
    let small = c.in_ok-before.ensures.small in
    let whole = blocks_text (map (slot_in codes) slots) c.args.before.now mcu in
    let old = output_with c.args.output.now c.args.out.now in
    let now = output_with l.output l.out in
    let new = output_with c.block.new.output c.block.new.out in
    let text = block_text tables (half (get_or l.before component (pos 0))) block in
    let rest = blocks_text (map (slot_in codes) (drop (l.i + 1) slots)) (dcs_after_block l.before (slot_in codes (get_or slots l.i 0)) block) (drop (l.i + 1) mcu) in
    let at =
    is_slot_at codes slots l.i component tables l.before c.loop-i-test.true c.requires.few l.invariant.four c.requires.slots l.invariant.small c.from-component.ensures c.index-codes-component.is in
    let due = block_due codes slots l.i component tables l.before block mcu whole old now at c.loop-i-test.true c.requires.long c.index-mcu-i.is l.invariant.going in
    let after = slot_dcs codes slots l.i component l.before block dc c.from-component.ensures c.in_ok-before.ensures.dc small in
    let bound : unsigned_abs (half dc) ≤ 32767 = subst (λ (z : ℤ). unsigned_abs z ≤ 32767) (sym (kept_half dc small)) small in
    let spent = c.in_ok-before.ensures.spent in
    record {
      four = length-set l.before component (half dc) ∙ l.invariant.four;
      small = All-set (λ (z : ℤ). unsigned_abs z ≤ 32767) l.before component (half dc) bound l.invariant.small;
      spent = omega (arith, spent, l.invariant.spent);
      dcs =
          ap (λ (b : List ℤ). dcs_after (map (slot_in codes) (drop (l.i + 1) slots)) b (drop (l.i + 1) mcu)) (sym after)
          ∙ sym (next_dcs codes slots l.before mcu l.i block c.loop-i-test.true c.requires.long c.index-mcu-i.is) ∙ l.invariant.dcs;
      going = subst (λ (b : List ℤ). HasAppended whole old new (blocks_text (map (slot_in codes) (drop (l.i + 1) slots)) b (drop (l.i + 1) mcu))) after
          (texts_more whole old now new text rest due c.in_ok-before.ensures.is);
    }

pub returns-clause-is : goal.returns-clause-is
returns-clause-is c =
    let l = c.loop-i in
    let codes = c.args.codes.now in
    let slots = c.args.slots.now in
    let mcu = c.args.mcu.now in
    let whole = blocks_text (map (slot_in codes) slots) c.args.before.now mcu in
    let old = output_with c.args.output.now c.args.out.now in
    let now = output_with l.output l.out in
    texts_end whole old now (subst (λ (t : Text). HasAppended whole old now t) (no_text codes slots l.before mcu l.i c.loop-i-test.false) l.invariant.going)

pub returns-clause-dcs : goal.returns-clause-dcs
returns-clause-dcs c =
    let l = c.loop-i in
    sym (no_dcs_more c.args.codes.now c.args.slots.now l.before c.args.mcu.now l.i c.loop-i-test.false) ∙ l.invariant.dcs
