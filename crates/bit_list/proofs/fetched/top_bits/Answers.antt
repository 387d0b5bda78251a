use Rattle.std.proofs.Common.{◌≤◌, ◌-◌, ◌*◌, ◌/◌, ◌%◌, ◌^◌, arith}
use Rattle.std.proofs.Math.Pow.{pow_mono}
use Rattle.std.proofs.lemmas.Nat.{and_le_r, one_shl}
use Rattle.bit_list.specs.BitsInside.{place_before}
use Rattle.bit_list.proofs.Machine.{masked}
use Rattle.bit_list.proofs.Ahead.{fewer_units, where_fewer, number_ahead}
use Rattle.bit_list.proofs.fetched.top_bits.Goals as goal

pub returns-clause-bits : goal.returns-clause-bits
returns-clause-bits c =
    let at = c.args.at.now in
    let kept = c.requires.kept in
    number_ahead c.args.bytes.now (place_before at.end at.stuffed) at.word at.skip at.last at.first at.count c.args.n _ c.requires.there kept.fresh kept.run kept.units
    (masked (at.word / 2 ^ (at.count - c.args.n)) c.args.n 64 (omega (arith, c.requires.few)))

pub overflow_cast-result-3 : goal.overflow_cast-result-3
overflow_cast-result-3 c =
    let at = c.args.at.now in
    let n = c.args.n in
    let most : 2 ^ n ≤ 2 ^ 16 = pow_mono c.requires.few in
    omega (arith, and_le_r (at.word / 2 ^ (at.count - n)) (1 * 2 ^ n % 2 ^ 64 - 1), one_shl n 64 (omega (arith, c.requires.few)))

pub returns-clause-kept : goal.returns-clause-kept
returns-clause-kept c =
    let at = c.args.at.now in
    let kept = c.requires.kept in
    let place = place_before at.end at.stuffed in
    let fewer = at.count - c.args.n in
    record {
      few = omega (arith, kept.few);
      skip = kept.skip;
      fresh = λ h. kept.fresh (omega arith);
      run = where_fewer c.args.bytes.now place at.word at.first at.count fewer (omega arith) kept.units kept.run;
      units = fewer_units c.args.bytes.now place at.word at.count fewer (omega arith) kept.units;
    }
