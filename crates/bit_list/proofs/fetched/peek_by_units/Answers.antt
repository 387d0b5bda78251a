use Rattle.std.proofs.Common.{◌<◌, ◌≤◌, ◌+◌, ◌-◌, ◌*◌, ◌^◌, ◌%◌, refl, ap, ◌∙◌, arith}
use Rattle.bit_list.specs.Bits.{low_bits}
use Rattle.bit_list.specs.BitsInside.{cursor_of}
use Rattle.bit_list.specs.Peeked.{peeked}
use Rattle.bit_list.proofs.Peeking.{seen_more, seen_all, with_zeros, ended_seen}
use Rattle.bit_list.proofs.fetched.peek_by_units.Goals as goal

pub returns-in-Err-clause-bits : goal.returns-in-Err-clause-bits
returns-in-Err-clause-bits c =
    let l = c.loop-wanted in
    ended_seen l.wanted l.number _ c.args.bytes.now (cursor_of l.at) _ _ c.loop-wanted-test.true l.invariant.few l.invariant.below refl c.in-Err.ensures.err
    (l.invariant.bits ∙ ap (peeked 9 c.args.bytes.now) c.begun-at.ensures.cursor)

pub returns-in-Err-clause-below : goal.returns-in-Err-clause-below
returns-in-Err-clause-below c =
    let l = c.loop-wanted in
    (with_zeros l.wanted l.number _ l.invariant.few l.invariant.below refl).1

pub loop-wanted-preserved : goal.loop-wanted-preserved
loop-wanted-preserved c =
    let l = c.loop-wanted in
    let k = c.min-count.result in
    let rest = c.split-first.result.1 in
    let some : 0 < k = omega (arith, c.min-count.ensures, c.in-Ok.ensures.some, c.loop-wanted-test.true) in
    let within : k ≤ l.wanted = omega (arith, c.min-count.ensures) in
    let more = seen_more k l.wanted l.number c.split-first.result.0 _ c.args.bytes.now (cursor_of l.at) (cursor_of c.in-Ok.filled) (cursor_of rest) (low_bits rest.count rest.number) _
    some within l.invariant.few l.invariant.below c.split-first.ensures.below c.in-Ok.ensures.ok c.split-first.ensures.bits c.split-first.ensures.rest
    (ap (λ n. l.number * 2 ^ k % 2 ^ 16 + n) c.from.ensures) l.invariant.bits in
    record {
      few = omega (arith, l.invariant.few);
      window = c.split-first.ensures.kept;
      below = more.0;
      bits = more.1;
    }

pub returns-clause-bits : goal.returns-clause-bits
returns-clause-bits c =
    let l = c.loop-wanted in
    seen_all (9 - l.wanted) l.wanted l.number c.args.bytes.now (cursor_of l.at) _ (omega (arith, c.loop-wanted-test.false)) (omega (arith, c.loop-wanted-test.false))
    (l.invariant.bits ∙ ap (peeked 9 c.args.bytes.now) c.begun-at.ensures.cursor)
