use Rattle.std.proofs.Common.{◌≡◌, arith, sym, ap, ◌∙◌, true≢false}
use Rattle.handover.specs.HandoverBytes.{handover_in, handover_bytes, are_sound}
use Rattle.handover.proofs.FieldBytes.{split_of, four_of, predictors_of, bytes_again, all_of}
use Rattle.handover.proofs.handover.Handover.from_bytes.Goals as goal
use Rattle.handover.proofs.handover.Handover.from_bytes.Goals.{After-read_u32-restarts}

preds_are : (c : goal.After-read_u32-restarts) → c.read_i16_into.new.dst ≡ (handover_in c.args.bytes.now).preds
unfolding handover_in
preds_are c =
    let s = split_of c.args.bytes.now c.told-bytes in
    rw (predictors_of _ c.read_i16_into.new.dst (omega arith) c.read_i16_into.ensures, s.are)

fields_are : goal.returns-clause-some
unfolding handover_in
fields_are c =
    let s = split_of c.args.bytes.now c.told-bytes in
    let last = four_of s.last s.four in
    rw (preds_are c, c.read_u32-restarts.ensures, s.are, last.are)

pub returns-clause-some : goal.returns-clause-some
returns-clause-some = fields_are

pub returns-clause-spelled : goal.returns-clause-spelled
returns-clause-spelled c =
    ap handover_bytes (fields_are c) ∙ bytes_again c.args.bytes.now c.told-bytes (all_of c.args.bytes.now c.fits-bytes)

pub returns-then-not-are_sound-clause-none : goal.returns-then-not-are_sound-clause-none
unfolding handover_in
returns-then-not-are_sound-clause-none c t =
    let s = split_of c.args.bytes.now c.told-bytes in
    let p : c.read_i16_into.new.dst ≡ (handover_in c.args.bytes.now).preds =
    rw (predictors_of _ c.read_i16_into.new.dst (omega arith) c.read_i16_into.ensures, s.are) in
    let same : are_sound (handover_in c.args.bytes.now).partial (handover_in c.args.bytes.now).bits (handover_in c.args.bytes.now).preds ≡ c.are_sound.result =
    ap (are_sound (handover_in c.args.bytes.now).partial (handover_in c.args.bytes.now).bits) (sym p) ∙ sym c.are_sound.ensures in
    true≢false (sym t ∙ same ∙ c.if-not-are_sound.true)
