use Rattle.std.proofs.Common.{rules, ◌≡◌, ◌-◌, ◌<◌, ℕ, length, Ok, Err, refl, sym, ap, subst, ◌∙◌, arith}
use Rattle.std.specs.Prelude.{⊤}
use Rattle.scan_spec.specs.ScanCalls.{McuIsPut}
use Rattle.block_spec.specs.Grid.{Grid}
use Rattle.coef_block.specs.BlockRows.{block_count}
use Rattle.scan_spec.specs.Slots.{Shape}
use Rattle.segment_code.specs.Decoding.{DecoderSeen}
use Rattle.segment_code.specs.DecoderInside.{decoder_of}
use Rattle.segment_code.specs.DecodedPieces.{IsWithin, McuIsMade}
use Rattle.segment_code.proofs.McuMade.{fault_made, stop_made, mcu_made, stop_keeps, put_keeps}
use Rattle.segment_code.proofs.decoder.SegmentDecoder.next_mcu.Goals as goal

pub returns-in-Err-clause-made : goal.returns-in-Err-clause-made
returns-in-Err-clause-made c = λ s at given.
    let is = subst (λ (d : DecoderSeen). IsWithin d s d.left at) (sym c.self.view_is) given in
    let decoded = is.decoded in
    fault_made (decoder_of c.self.inside) s at is c.get_mcu.new.coder c.in-Err.fault
    c.read_cause.result c.args.out.now (decoder_of c.self.inside)
    (c.in-Err.ensures.fault at.blocks decoded.held) c.read_cause.ensures

pub invariant_of-self-in-Err-mcu : goal.invariant_of-self-in-Err-mcu
invariant_of-self-in-Err-mcu c =
    let keeps = stop_keeps c.self.inside.writer.stop c.self.inside.writer c.mcu.new.self
    c.get_mcu.new.out c.args.out.now c.mcu.new.out c.in-Err-mcu.stop c.in-Err-mcu.ensures in
    let inside = c.self.invariant in
    let bins = inside.bins in
    let within = inside.within in
    let room = c.get_mcu.ensures.room in
    let count = ap (λ s. s.count) keeps.1 in
    let mcus = ap (λ (shape : Shape). shape.mcus) keeps.0 in
    record {
      bins = omega (arith, room, bins);
      grid = c.get_mcu.ensures.grid ∙ inside.grid;
      shape = keeps.0 ∙ inside.shape;
      blocks = ap (λ (shape : Shape). length shape.slots) keeps.0 ∙ inside.blocks
          ∙ ap (λ (g : Grid). block_count g.mcu) (sym c.get_mcu.ensures.grid);
      within = omega (arith, count, mcus, within);
      bounded = inside.bounded;
    }

pub returns-in-Err-mcu-clause-made : goal.returns-in-Err-mcu-clause-made
returns-in-Err-mcu-clause-made c = λ s at given.
    let is = subst (λ (d : DecoderSeen). IsWithin d s d.left at) (sym c.self.view_is) given in
    let decoded = is.decoded in
    let put = subst (λ stop. McuIsPut {A = ⊤} stop c.self.inside.writer c.get_mcu.new.out
    c.args.out.now (Err c.in-Err-mcu.stop) c.mcu.new.self c.mcu.new.out) is.holds.unstopped
    c.in-Err-mcu.ensures in
    let long : length c.get_mcu.new.out ≡ length c.self.inside.writer.shape.slots = search rules in
    stop_made (decoder_of c.self.inside) s at is c.get_mcu.new.coder c.get_mcu.new.out
    (long ∙ ap (λ (shape : Shape). length shape.slots) is.holds.shape)
    (c.in_default.ensures.got at.blocks decoded.held) c.in-Err-mcu.stop c.write_cause.result
    c.args.out.now c.mcu.new.out (decoder_of c.self.inside) put.0 put.1 c.write_cause.ensures

pub invariant_of-self-2 : goal.invariant_of-self-2
invariant_of-self-2 c =
    let keeps = put_keeps c.self.inside.writer.stop c.self.inside.writer c.mcu.new.self
    c.get_mcu.new.out c.args.out.now c.mcu.new.out c.in_default-mcu.ensures in
    let inside = c.self.invariant in
    let bins = inside.bins in
    let within = inside.within in
    let room = c.get_mcu.ensures.room in
    let count = keeps.1 in
    let mcus = ap (λ (shape : Shape). shape.mcus) keeps.0 in
    let some = rw (← c.self.view_is) at c.requires.left in
    let bounded = inside.bounded in
    record {
      bins = omega (arith, room, bins);
      grid = c.get_mcu.ensures.grid ∙ inside.grid;
      shape = keeps.0 ∙ inside.shape;
      blocks = ap (λ (shape : Shape). length shape.slots) keeps.0 ∙ inside.blocks
          ∙ ap (λ (g : Grid). block_count g.mcu) (sym c.get_mcu.ensures.grid);
      within = omega (arith, count, mcus, within, some);
      bounded = omega (arith, bounded, some);
    }

pub returns-clause-made : goal.returns-clause-made
returns-clause-made c = λ s at given.
    let is = subst (λ (d : DecoderSeen). IsWithin d s d.left at) (sym c.self.view_is) given in
    let decoded = is.decoded in
    let left_is = ap (λ (d : DecoderSeen). d.left) c.self.view_is in
    let put = subst (λ stop. McuIsPut {A = ⊤} stop c.self.inside.writer c.get_mcu.new.out
    c.args.out.now (Ok tt) c.mcu.new.self c.mcu.new.out) is.holds.unstopped
    c.in_default-mcu.ensures in
    let long : length c.get_mcu.new.out ≡ length c.self.inside.writer.shape.slots = search rules in
    let new : DecoderSeen = record (decoder_of c.self.inside) {
      coder = c.get_mcu.new.coder;
      segment = c.get_mcu.new.segment;
      writer = c.mcu.new.self;
      left = c.self.inside.left - 1;
    } in
    subst (λ (n : ℕ). McuIsMade {A = ⊤} s n at c.args.out.now (Ok tt) new c.mcu.new.out) left_is
    (mcu_made (decoder_of c.self.inside) s at is c.get_mcu.new.coder c.get_mcu.new.out
    (long ∙ ap (λ (shape : Shape). length shape.slots) is.holds.shape)
    (c.in_default.ensures.got at.blocks decoded.held) c.get_mcu.new.segment c.mcu.new.self
    (c.self.inside.left - 1) c.args.out.now c.mcu.new.out c.get_mcu.ensures.grid
    (c.in_default.ensures.held at.blocks decoded.held)
    (subst (λ (n : ℕ). 0 < n) (sym left_is) c.requires.left) refl put)
