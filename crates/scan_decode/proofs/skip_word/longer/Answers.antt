use Rattle.std.proofs.Common.{◌≤◌, ◌+◌, get_or, arith}
use Rattle.bit_list.specs.Bits.{low_bits}
use Rattle.scan_decode.specs.SkipWords.{blank}
use Rattle.scan_decode.proofs.SkipReading.{skips_both, rest_bits}
use Rattle.scan_decode.proofs.skip_word.longer.Goals as goal

pub returns : goal.returns
returns c =
    let index = c.args.index in
    let rest = c.rest_of.result in
    let word = c.args.word in
    let more = get_or c.args.singles.now rest blank in
    let long = c.requires.size in
    let here = c.requires.word in
    let there = c.requires.skips rest (let below = c.rest_of.ensures.below in omega (arith, long, below)) in
    let within : word.bits + more.bits ≤ 12 = let most = c.if-bits-gt-BITS.false in omega (arith, most) in
    let few : word.coefficients + more.coefficients ≤ 64 = let most = c.if-coefficients-gt64.false in omega (arith, most) in
    skips_both c.args.codes.now (low_bits 12 index) (low_bits 12 rest) word more here c.if-word.false there within few
    (rest_bits index rest word.bits more.bits within c.rest_of.ensures.value)
