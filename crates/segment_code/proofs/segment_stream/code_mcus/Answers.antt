use Rattle.std.proofs.Common.{rules, ◌≡◌, ℕ, ◌≤◌, ◌+◌, [], ◌∷◌, ◌++◌, length, map, refl, ap, ◌∙◌, sym, arith, subst}
use Rattle.std.specs.Prelude.{Ok, Err, None}
use Rattle.std.proofs.lemmas.List.{length-take-le}
use Rattle.std.proofs.lemmas.Result.{err_from_is_err_and}
use Rattle.scan_spec.specs.ScanLaws.{zigzag_of}
use Rattle.scan_spec.specs.Slots.{Shape}
use Rattle.container_spec.specs.ScanStream.{blocks_of}
use Rattle.scan_spec.specs.BlockBits.{in_zigzag}
use Rattle.segment_code.specs.CodedMcus.{next_of}
use Rattle.segment_code.specs.FoundPads.{pads_through}
use Rattle.segment_code.proofs.McusCoded.{coded_none, coded_one}
use Rattle.segment_code.proofs.PadsOn.{more_through, none_through}
use Rattle.segment_code.proofs.ReadOn.{count_on, keeps, reads_on, refused_on}
use Rattle.segment_code.proofs.segment_stream.code_mcus.Goals as goal

pub next_mcu-requires-clause-more : goal.next_mcu-requires-clause-more
next_mcu-requires-clause-more c =
    let so = c.loop.invariant.coded in
    let count = count_on c.loop.counter c.args.reader.now c.loop.reader (zigzag_of so.0) so.1.on in
    let total = ap (λ (s : Shape). s.mcus) (keeps c.args.reader.now c.loop.reader
    so.1.on.same).shape in
    omega (arith, count, total, c.requires.count, c.loop-test.true)

pub loop-init : goal.loop-init
loop-init c = record {
  long = length-take-le c.mcu_blocks-count.result _ c.mcu_blocks-count.ensures.few
      ∙ c.mcu_blocks-count.ensures.value;
  grid = refl;
  room = c.requires.room;
  coded = (
    [],
    coded_none c.args.reader.now c.args.segment.now.grid c.args.segment.now
        c.args.coder.now c.requires.held,
  );
  pads = sym (none_through c.args.reader.now c.args.pads.now);
}

pub loop-preserved : goal.loop-preserved
loop-preserved c =
    let i = c.loop.invariant in
    let so = i.coded.1 in
    let stop : c.loop.reader.stop ≡ None = (keeps c.args.reader.now c.loop.reader so.on.same).stop
    ∙ c.requires.start in
    let read = reads_on c.loop.reader c.next_mcu.new.self (Ok c.in_ok-next_mcu.field-0)
    c.next_mcu.new.out stop c.in_ok-next_mcu.ensures in
    let same : length c.next_mcu.new.out ≡ length c.loop.blocks = search rules in
    record {
      long = same ∙ i.long ∙ sym (ap (λ (s : Shape). length s.slots)
          (keeps c.loop.reader c.next_mcu.new.self read.1).shape);
      grid = c.put_mcu.ensures.grid ∙ i.grid;
      room = rw ((c.in_ok-put_mcu.ensures.put (blocks_of i.coded.0) so.held).puts.room) i.room;
      coded = (
        i.coded.0 ++ c.next_mcu.new.out ∷ [],
        coded_one c.loop.counter c.args.reader.now c.loop.reader c.next_mcu.new.self
            c.args.segment.now.grid c.loop.segment c.put_mcu.new.segment c.args.coder.now
            c.loop.coder c.put_mcu.new.coder i.coded.0 c.next_mcu.new.out so read.0
            read.1 c.in_ok-put_mcu.ensures.blocks
            (c.in_ok-put_mcu.ensures.held (blocks_of i.coded.0) so.held)
            (rw (i.grid) at (c.in_ok-put_mcu.ensures.put (blocks_of i.coded.0) so.held)),
      );
      pads = c.in_ok-keep_pad.ensures c.loop.reader (map in_zigzag c.next_mcu.new.out) read.0 read.1
          ∙ ap (pads_through 1 c.loop.reader) i.pads
          ∙ more_through c.loop.counter 1 c.args.reader.now c.loop.reader (zigzag_of i.coded.0)
          c.args.pads.now so.on;
    }

pub returns-in_err-next_mcu-clause-refused : goal.returns-in_err-next_mcu-clause-refused
returns-in_err-next_mcu-clause-refused c =
    let i = c.loop.invariant in
    let so = i.coded.1 in
    let p = err_from_is_err_and c.from_residual.result c.from_residual.ensures.1 in
    let stop : c.loop.reader.stop ≡ None = (keeps c.args.reader.now c.loop.reader so.on.same).stop
    ∙ c.requires.start in
    let read = rw stop at c.in_err-next_mcu.ensures in
    let more : c.loop.counter + 1 ≤ c.args.mcus = omega (arith, c.loop-test.true) in
    let all = refused_on c.loop.counter c.args.mcus c.args.reader.now c.loop.reader
    (zigzag_of i.coded.0) c.in_err-next_mcu.field-0.0 so.on more read.0 in
    rw (p.1, p.2) (λ refusal is. let cause : c.in_err-next_mcu.field-0.0 ≡ refusal = cc in
    subst (λ r. next_of c.args.mcus c.args.reader.now ≡ Err r) cause all)

pub returns-clause-pads : goal.returns-clause-pads
returns-clause-pads c =
    let last : c.loop.counter ≡ c.args.mcus = omega (arith, c.loop-test.false, c.loop.auto.counter-end) in
    c.loop.invariant.pads ∙ ap (λ (n : ℕ). pads_through n c.args.reader.now c.args.pads.now) last
