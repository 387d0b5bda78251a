use Rattle.std.proofs.Common.{refl, arith}
use Rattle.bool_coder.proofs.MarkedWord.{word-marked, word_apart, bits_short, bits_full}
use Rattle.bool_coder.proofs.encoder.parts_of.Goals as goal

pub overflow_sub-bits : goal.overflow_sub-bits
overflow_sub-bits c = (word_apart c.args.word c.requires.some (omega arith)).few

pub overflow_sub-result : goal.overflow_sub-result
overflow_sub-result c = let a = word_apart c.args.word c.requires.some (omega arith) in rw a.one a.within

pub returns-clause-low : goal.returns-clause-low
returns-clause-low c = rw (word_apart c.args.word c.requires.some (omega arith)).one refl

pub returns-clause-bits : goal.returns-clause-bits
returns-clause-bits c = (word_apart c.args.word c.requires.some (omega arith)).bits

pub returns-clause-short : goal.returns-clause-short
returns-clause-short c =
    λ short. rw (word_apart c.args.word c.requires.some (omega arith)).bits (bits_short c.args.word (word-marked c.args.word c.requires.some (omega arith)) short)

pub returns-clause-full : goal.returns-clause-full
returns-clause-full c =
    λ full. rw (word_apart c.args.word c.requires.some (omega arith)).bits (bits_full c.args.word (word-marked c.args.word c.requires.some (omega arith)) full)
