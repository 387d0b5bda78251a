use Rattle.std.proofs.Common.{refl, sym, ap, ◌∙◌, arith}
use Rattle.segment_code.specs.Decoding.{DecoderSeen}
use Rattle.segment_code.specs.DecodedPieces.{goes_on}
use Rattle.segment_code.proofs.StepsTaken.{within_it, within_end, counted_piece, more_step, last_step, bad_step}
use Rattle.segment_code.proofs.decoder.SegmentDecoder.next_piece.Goals as goal

pub count-requires : goal.count-requires
count-requires c =
    let inside = c.self.invariant in
    let bounded = inside.bounded in
    let given_is = ap (λ (d : DecoderSeen). d.given) c.self.view_is in
    let left_is = ap (λ (d : DecoderSeen). d.left) c.self.view_is in
    let given = c.fill.ensures.given in
    let most = c.in_default.ensures.most in
    let fewer = c.in_default.ensures.fewer in
    let count = c.len.ensures.count in
    let within = c.len.ensures.within in
    grind (arith, bounded, given_is, left_is, given, most, fewer, count, within)

pub returns-then-is_over-clause-step : goal.returns-then-is_over-clause-step
returns-then-is_over-clause-step c = λ s left at stands.
    let started = sym (ap (λ (d : DecoderSeen). d.started) c.self.view_is) ∙ c.if-not-self.false in
    let is = within_it c.args.self.now s left at stands started in
    let counted = counted_piece c.args.self.now s left at c.fill.new.out is c.fill.new.self
    c.count.new.self c.len.result (c.in_default.ensures.filled s left at is) c.fill.ensures.given
    c.len.ensures.count c.count.ensures in
    let none = c.if-is_over.ensures.over refl in
    last_step c.args.self.now s left at c.fill.new.out is c.end.result c.count.new.self
    c.end.new.self counted.0 none counted.1
    (c.end.ensures.step s counted.0.now
    (within_end c.args.self.now s left at c.fill.new.out is c.count.new.self counted.0 none))
    c.end.ensures.running

pub returns-else-is_over-clause-step : goal.returns-else-is_over-clause-step
returns-else-is_over-clause-step c = λ s left at stands.
    let started = sym (ap (λ (d : DecoderSeen). d.started) c.self.view_is) ∙ c.if-not-self.false in
    let is = within_it c.args.self.now s left at stands started in
    let counted = counted_piece c.args.self.now s left at c.fill.new.out is c.fill.new.self
    c.count.new.self c.len.result (c.in_default.ensures.filled s left at is) c.fill.ensures.given
    c.len.ensures.count c.count.ensures in
    let full = ap (λ (d : DecoderSeen). goes_on d.left c.fill.new.out) c.count.ensures
    ∙ c.in_default.ensures.all in
    more_step c.args.self.now s left at c.fill.new.out is c.count.new.self counted.0 full
    (c.if-is_over.ensures.some refl) counted.1

pub returns-in-Err-clause-step : goal.returns-in-Err-clause-step
returns-in-Err-clause-step c = λ s left at stands.
    let started = sym (ap (λ (d : DecoderSeen). d.started) c.self.view_is) ∙ c.if-not-self.false in
    let is = within_it c.args.self.now s left at stands started in
    bad_step c.args.self.now s left at c.fill.new.out is c.fault-in-Err.result
    c.fill.new.self.number c.in-Err.cause c.fill.new.self (c.in-Err.ensures.filled s left at is)
    c.fault-in-Err.ensures.step c.fill.ensures.number c.fault-in-Err.new.self
    c.fault-in-Err.ensures.running
