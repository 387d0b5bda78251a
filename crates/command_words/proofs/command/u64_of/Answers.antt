use Rattle.std.specs.Str.Parse.{ExplainsUnsignedError, HasUnsignedDigitsIfOk, ParsesUnsigned}
use Rattle.clap.specs.Words.{found_of}
use Rattle.command_words.proofs.Reading.{none_read, some_read}
use Rattle.command_words.proofs.command.u64_of.Goals as goal

pub returns-clause-some : goal.returns-clause-some
returns-clause-some c =
    some_read 64 (λ bs r. ParsesUnsigned 64 10 bs r × ExplainsUnsignedError 10 bs r × HasUnsignedDigitsIfOk bs r)
    (λ text r given. given.0) (found_of c.args.options.now) c.args.option.now c.get_one.result c.get_one.ensures.none c.get_one.ensures.value

pub returns-clause-none : goal.returns-clause-none
returns-clause-none c =
    none_read 64 (λ bs r. ParsesUnsigned 64 10 bs r × ExplainsUnsignedError 10 bs r × HasUnsignedDigitsIfOk bs r)
    (λ text r given. given.0) (found_of c.args.options.now) c.args.option.now c.get_one.result c.get_one.ensures.value
