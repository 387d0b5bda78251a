use Rattle.std.proofs.Common.{◌≡◌, ◌+◌, ◌-◌, ◌^◌, ◌<◌, ◌≤◌, refl, arith}
use Rattle.std.proofs.Math.Pow.{pow_mono}
use Rattle.std.proofs.lemmas.Result.{err_from_is_err_and}
use Rattle.bit_list.specs.Bits.{low_bits}
use Rattle.bit_list.specs.BitsInside.{cursor_of}
use Rattle.bit_list.proofs.Cursors.{fault_after}
use Rattle.bit_list.proofs.Machine.{grown, none_yet, number_taken}
use Rattle.bit_list.proofs.window.first_bits.Goals as goal

pub loop-wanted-init : goal.loop-wanted-init
loop-wanted-init c =
    let none : c.args.n - c.args.n ≡ 0 = omega arith in
    record {
      few = omega arith;
      window = c.requires.window;
      short = c.requires.short;
      below = rw none (omega arith);
      bits = rw none (none_yet c.args.bytes.now (cursor_of c.args.begin));
    }

pub fill-requires : goal.fill-requires
fill-requires c = c.loop-wanted.invariant.window

pub returns-in_err-filled-clause-err : goal.returns-in_err-filled-clause-err
returns-in_err-filled-clause-err c =
    let p = err_from_is_err_and c.from_residual.result c.from_residual.ensures.1 in
    let taken = c.args.n - c.loop-wanted.wanted in
    let whole : taken + c.loop-wanted.wanted ≡ c.args.n = omega (arith, c.loop-wanted.invariant.few) in
    let fault = fault_after taken c.loop-wanted.wanted c.args.bytes.now (cursor_of c.args.begin) (cursor_of c.loop-wanted.at) (low_bits taken c.loop-wanted.number) _
    c.loop-wanted.invariant.bits c.in_err-filled.ensures.err c.loop-wanted-test.true in
    rw (p.1, p.2, ← whole) fault

pub overflow_add-number : goal.overflow_add-number
overflow_add-number c =
    let k = c.min-count.result in
    let m = c.args.n - c.loop-wanted.wanted in
    let few : m + k ≤ 31 = omega (arith, c.min-count.ensures, c.loop-wanted.invariant.few, c.requires.few) in
    let g = grown m k c.loop-wanted.number c.split-first.result.0 c.from.result _ few c.loop-wanted.invariant.below c.split-first.ensures.below c.from.ensures refl in
    omega (arith, g.word)

pub loop-wanted-preserved : goal.loop-wanted-preserved
loop-wanted-preserved c =
    let k = c.min-count.result in
    let m = c.args.n - c.loop-wanted.wanted in
    let rest = c.split-first.result.1 in
    let few : m + k ≤ 31 = omega (arith, c.min-count.ensures, c.loop-wanted.invariant.few, c.requires.few) in
    let some : 0 < k = omega (arith, c.min-count.ensures, c.in_ok-filled.ensures.some, c.loop-wanted-test.true) in
    let many : c.args.n - (c.loop-wanted.wanted - k) ≡ m + k = omega (arith, c.min-count.ensures, c.loop-wanted.invariant.few) in
    let g = grown m k c.loop-wanted.number c.split-first.result.0 c.from.result _ few c.loop-wanted.invariant.below c.split-first.ensures.below c.from.ensures refl in
    let taken = number_taken c.args.bytes.now (cursor_of c.args.begin) (cursor_of c.loop-wanted.at) (cursor_of c.in_ok-filled.filled) (cursor_of rest) m k
    c.loop-wanted.number c.split-first.result.0 (low_bits rest.count rest.number) c.loop-wanted.invariant.bits c.in_ok-filled.ensures.ok some
    c.split-first.ensures.below c.split-first.ensures.bits c.split-first.ensures.rest in
    record {
      few = omega (arith, c.loop-wanted.invariant.few);
      window = c.split-first.ensures.kept;
      short = omega (arith, c.split-first.ensures.fewer, c.in_ok-filled.ensures.kept.bits.few, some);
      below = rw many g.below;
      bits = rw (many, g.is) taken;
    }

pub overflow_cast-result : goal.overflow_cast-result
overflow_cast-result c =
    let all : c.args.n - c.loop-wanted.wanted ≡ c.args.n = omega arith in
    let below : c.loop-wanted.number < 2 ^ c.args.n = rw all at c.loop-wanted.invariant.below in
    let most : 2 ^ c.args.n ≤ 2 ^ 16 = pow_mono c.requires.few in
    omega arith

pub returns-clause-below : goal.returns-clause-below
returns-clause-below c =
    let all : c.args.n - c.loop-wanted.wanted ≡ c.args.n = omega arith in
    rw all at c.loop-wanted.invariant.below

pub returns-clause-bits : goal.returns-clause-bits
returns-clause-bits c =
    let all : c.args.n - c.loop-wanted.wanted ≡ c.args.n = omega arith in
    rw all at c.loop-wanted.invariant.bits

pub returns-clause-kept : goal.returns-clause-kept
returns-clause-kept c = c.loop-wanted.invariant.window

pub returns-clause-short : goal.returns-clause-short
returns-clause-short c = c.loop-wanted.invariant.short
