use Rattle.std.proofs.Common.{◌≡◌, ◌<◌, ◌≤◌, ◌+◌, ◌-◌, ◌/◌, ◌%◌, ◌^◌, ap, sym, ◌∙◌, arith, rules, length, take, refl, unsigned_abs}
use Rattle.std.specs.Prelude.{Some}
use Rattle.std.proofs.lemmas.List.{length-take-le}
use Rattle.bit_list.specs.Bits.{low_bits}
use Rattle.bit_list.specs.NumbersOfBits.{length-low_bits}
use Rattle.huff_table.specs.CodeWords.{word_of}
use Rattle.std.proofs.Math.Pow.{pow_mono}
use Rattle.bit_list.proofs.Machine.{masked}
use Rattle.scan_decode.proofs.BlockStepLemmas.{cast_kept}
use Rattle.scan_decode.proofs.TenBits.{nine_of_ten, reads_end, reads_value, reads_nothing}
use Rattle.scan_decode.proofs.read_word.read_word.Goals as goal

pub returns-in-None : goal.returns-in-None
returns-in-None c = reads_nothing c.args.codes.now (low_bits 10 c.args.index)

pub returns-then-symbol-eq0 : goal.returns-then-symbol-eq0
returns-then-symbol-eq0 c =
    let index = c.args.index in
    let size = c.in-Some.found.1 in
    let is = c.in-Some.ensures.some in
    let few : size ≤ 9 = is.1 in
    let word = is.2 ∙ ap Some (nine_of_ten index (index / 2) size refl few) in
    let long : length (take size (low_bits 10 index)) ≡ size = length-take-le size (low_bits 10 index) (let l = length-low_bits 10 index in omega (arith, l, few)) in
    reads_end c.args.codes.now (low_bits 10 index) size c.requires.table few (ap (word_of c.args.codes.now) (sym c.if-symbol-eq0.true) ∙ word) long

pub returns : goal.returns
returns c =
    let index = c.args.index in
    let symbol = c.in-Some.found.0 in
    let size = c.in-Some.found.1 in
    let is = c.in-Some.ensures.some in
    let few : size ≤ 9 = is.1 in
    let word = is.2 ∙ ap Some (nine_of_ten index (index / 2) size refl few) in
    let zeros = symbol / 16 in
    let more = symbol % 16 in
    let byte : symbol < 256 = search rules in
    let fits : size + more ≤ 10 = let h = c.if-size-more-gt-BITS.false in omega (arith, h) in
    let v = c.extend.result in
    let few_more : more ≤ 10 = omega (arith, fits) in
    let most : 2 ^ more ≤ 2 ^ 10 = pow_mono few_more in
    let small : unsigned_abs v ≤ 1023 = let below = c.extend.ensures.small in omega (arith, below, most) in
    reads_value c.args.codes.now index symbol size zeros more _ _ c.requires.table word (omega arith) (omega (arith, byte)) (let some = c.if-more-eq0.false in omega (arith, some)) fits
    (masked (index / 2 ^ (10 - size - more)) more 16 (omega arith)) (cast_kept v small ∙ c.extend.ensures.value) is.0
