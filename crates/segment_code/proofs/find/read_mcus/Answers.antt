use Rattle.std.proofs.Common.{rules, ◌≡◌, ℕ, ◌+◌, ◌-◌, [], ◌∷◌, ◌++◌, map, ap, ◌∙◌, sym, subst, arith}
use Rattle.std.specs.Prelude.{Ok, Err, None}
use Rattle.std.proofs.lemmas.List.{get_or_default}
use Rattle.std.proofs.lemmas.Result.{err_from_is_err_and}
use Rattle.scan_spec.specs.BlockBits.{in_zigzag}
use Rattle.scan_spec.specs.Slots.{Shape}
use Rattle.scan_spec.specs.ScanCalls.{ScanReader}
use Rattle.scan_decode.specs.Excerpts.{ExcerptFields}
use Rattle.segment_code.specs.FoundPads.{pads_through}
use Rattle.segment_code.specs.CodedMcus.{AreReadOn, next_of}
use Rattle.segment_code.proofs.PadsOn.{more_through, none_through}
use Rattle.segment_code.proofs.ReadOn.{count_on, keeps, none_read, one_more, read_more, reads_on, refused_on}
use Rattle.segment_code.proofs.find.read_mcus.Goals as goal

pub loop-left-init : goal.loop-left-init
loop-left-init c =
    let none : 0 ≡ c.args.mcus - c.args.mcus = omega arith in
    record {
      left = omega arith;
      read = (
        [],
        subst (λ (k : ℕ). AreReadOn k c.args.reader.now c.args.reader.now []) none
            (none_read c.args.reader.now),
      );
      pads = sym (none_through c.args.reader.now c.args.pads.now)
          ∙ ap (λ (k : ℕ). pads_through k c.args.reader.now c.args.pads.now) none;
    }

pub loop-left-preserved-then-skip_excerpt : goal.loop-left-preserved-then-skip_excerpt
loop-left-preserved-then-skip_excerpt c =
    let first = c.args.reader.now in
    let reader = c.loop-left.reader in
    let before = c.args.mcus - c.loop-left.left in
    let excerpt = c.index-excerpts-next-then-next-excerpts.result in
    let same : c.index-excerpts-next-then-skip_excerpt.result ≡ excerpt =
    c.index-excerpts-next-then-skip_excerpt.is
    ∙ get_or_default c.args.excerpts.now c.loop-next.next _ _ c.if-next-excerpts.true
    ∙ sym c.index-excerpts-next-then-next-excerpts.is in
    let count = c.mcus-left.ensures ∙ ap (λ (s : ExcerptFields). s.mcus) same in
    let skipped = c.skip_excerpt.ensures in
    let few = skipped.few c.if-skip_excerpt.true in
    let read = skipped.read c.if-skip_excerpt.true in
    let so = c.loop-left.invariant.read in
    let left = c.loop-left.invariant.left in
    let sum : before + excerpt.mcus ≡ c.args.mcus - (c.loop-left.left - c.mcus-left.result) =
    omega (arith, count, few, left) in
    record {
      left = omega (arith, left);
      read = (
        so.0 ++ read.0,
        subst (λ (k : ℕ). AreReadOn k first c.skip_excerpt.new.reader (so.0 ++ read.0)) sum
            (read_more before excerpt.mcus first reader c.skip_excerpt.new.reader so.0 read.0 so.1
            read.1),
      );
      pads = skipped.pads c.if-skip_excerpt.true c.loop-left.pads
          ∙ ap (pads_through excerpt.mcus reader) c.loop-left.invariant.pads
          ∙ more_through before excerpt.mcus first reader so.0 c.args.pads.now so.1
          ∙ ap (λ (k : ℕ). pads_through k first c.args.pads.now) sum;
    }

pub skip_mcu-requires : goal.skip_mcu-requires
skip_mcu-requires c =
    let same : c.else-next-excerpts.reader ≡ c.loop-left.reader = search rules in
    let left = c.loop-left.invariant.left in
    let so = c.loop-left.invariant.read in
    let count = count_on (c.args.mcus - c.loop-left.left) c.args.reader.now c.loop-left.reader so.0 so.1 in
    let total = ap (λ (s : Shape). s.mcus) (keeps c.args.reader.now c.loop-left.reader so.1.same).shape in
    let here = ap (λ (r : ScanReader). r.at.count) same in
    let all = ap (λ (r : ScanReader). r.shape.mcus) same in
    record { more = omega (arith, count, total, here, all, left, c.requires.count, c.loop-left-test.true) }

pub returns-in_err-skip_mcu-clause-refused : goal.returns-in_err-skip_mcu-clause-refused
returns-in_err-skip_mcu-clause-refused c =
    let same : c.else-next-excerpts.reader ≡ c.loop-left.reader = search rules in
    let reader = c.else-next-excerpts.reader in
    let first = c.args.reader.now in
    let before = c.args.mcus - c.loop-left.left in
    let left = c.loop-left.invariant.left in
    let others = c.loop-left.invariant.read.0 in
    let so = subst (λ (r : ScanReader). AreReadOn before first r others) (sym same)
    c.loop-left.invariant.read.1 in
    let stop : reader.stop ≡ None = (keeps first reader so.same).stop ∙ c.requires.start in
    let p = err_from_is_err_and c.from_residual.result
    c.from_residual.ensures.1 in
    let skipped = c.in_err-skip_mcu.ensures in
    let read = reads_on reader c.skip_mcu.new.self (Err c.in_err-skip_mcu.field-0.0) skipped.0 stop
    skipped.1 in
    let all = refused_on before c.args.mcus first reader others c.in_err-skip_mcu.field-0.0 so
    (omega (arith, left, c.loop-left-test.true)) read.0 in
    rw (p.1, p.2) (λ refusal is. let cause : c.in_err-skip_mcu.field-0.0 ≡ refusal = cc in
    subst (λ r. next_of c.args.mcus first ≡ Err r) cause all)

pub loop-left-preserved : goal.loop-left-preserved
loop-left-preserved c =
    let same : c.else-next-excerpts.reader ≡ c.loop-left.reader = search rules in
    let reader = c.else-next-excerpts.reader in
    let first = c.args.reader.now in
    let before = c.args.mcus - c.loop-left.left in
    let left = c.loop-left.invariant.left in
    let others = c.loop-left.invariant.read.0 in
    let so = subst (λ (r : ScanReader). AreReadOn before first r others) (sym same)
    c.loop-left.invariant.read.1 in
    let stop : reader.stop ≡ None = (keeps first reader so.same).stop ∙ c.requires.start in
    let skipped = c.in_ok-skip_mcu.ensures in
    let read = reads_on reader c.skip_mcu.new.self (Ok c.in_ok-skip_mcu.field-0) skipped.0 stop
    skipped.1 in
    let mcu = map in_zigzag skipped.0 in
    let sum : before + 1 ≡ c.args.mcus - (c.loop-left.left - 1) =
    omega (arith, left, c.loop-left-test.true) in
    record {
      left = omega (arith, left);
      read = (
        others ++ mcu ∷ [],
        subst (λ (k : ℕ). AreReadOn k first c.skip_mcu.new.self (others ++ mcu ∷ [])) sum
            (one_more before first reader c.skip_mcu.new.self others mcu so read.0 read.1),
      );
      pads = c.in_ok-keep_pad.ensures reader mcu read.0 read.1
          ∙ ap (pads_through 1 reader) c.loop-left.invariant.pads
          ∙ more_through before 1 first reader others c.args.pads.now so
          ∙ ap (λ (k : ℕ). pads_through k first c.args.pads.now) sum;
    }
