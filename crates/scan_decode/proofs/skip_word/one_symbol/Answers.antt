use Rattle.std.proofs.Common.{rules, ◌/◌, ◌%◌, ◌<◌, ap, sym, ◌∙◌, arith}
use Rattle.huff_table.specs.CodeWords.{word_of}
use Rattle.scan_decode.proofs.SkipReading.{skips_nothing, skips_end, skips_value}
use Rattle.scan_decode.proofs.skip_word.one_symbol.Goals as goal

pub returns-then-symbol-eq0 : goal.returns-then-symbol-eq0
returns-then-symbol-eq0 c = λ table twelve is word.
    skips_end table twelve c.args.size is c.requires (ap (word_of table) (sym c.if-symbol-eq0.true) ∙ word)

pub returns-then-more-eq0 : goal.returns-then-more-eq0
returns-then-more-eq0 c = λ table twelve is word. skips_nothing table twelve

pub returns : goal.returns
returns c = λ table twelve is word.
    let symbol = c.args.symbol in
    let byte : symbol < 256 = search rules in
    skips_value table twelve symbol c.args.size (symbol / 16) (symbol % 16) is c.requires word (omega arith) (omega (arith, byte))
    (let some = c.if-more-eq0.false in omega (arith, some)) (let most = c.if-more-gt10.false in omega (arith, most)) (let fits = c.if-size-more-gt16.false in omega (arith, fits))
