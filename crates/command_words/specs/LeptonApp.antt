-- Statement: the program's arguments as clap's specs see a command, and what clap makes of arguments
-- (README.md, Use).
use Rattle.std.specs.Prelude.{List, [], ◌∷◌, Option, Some, true, pos, codes}
use Rattle.clap.specs.Words.{App, Kinds, Row, Rule, Text, fault_of, new_app, new_rule}
use Rattle.clap.specs.Words.{subcommand_of, with_rule, with_subcommand}
use Rattle.clap.specs.Simple.{on_top}
use Rattle.clap.specs.declared.builder.value_parser.ValueParser.{ValueParser}
use Rattle.clap.specs.declared.builder.value_parser.ValueParser.TheVariants.{Signed, Unsigned}

-- an option `--name` with a number
abbrev pub long_rule : Text → ValueParser → Rule
long_rule name numbers = record (new_rule name) { long = Some name; parser = Some numbers }

-- one that is `usual` where it is left out
abbrev pub number_rule : Text → ValueParser → Text → Rule
number_rule name numbers usual = record (long_rule name numbers) { defaults = usual ∷ [] }

-- one that has to be given
abbrev pub required_rule : Text → ValueParser → Rule
required_rule name numbers = record (long_rule name numbers) { required = true }

-- `encode`, with `--segments` from 1 to 64, 8 where it is left out
abbrev pub encode_app : App
encode_app = with_rule (new_app (codes "encode"))
    (number_rule (codes "segments") (Signed (pos 1) (pos 64)) (codes "8"))

-- `decode`, with `--workers` from 0 to 16, 4 where it is left out
abbrev pub decode_app : App
decode_app = with_rule (new_app (codes "decode"))
    (number_rule (codes "workers") (Signed (pos 0) (pos 16)) (codes "4"))

-- `migrate`, without options
abbrev pub migrate_app : App
migrate_app = new_app (codes "migrate")

-- `chunk`, with `--index` from 0 to 4294967295, 0 where it is left out, `--size` from 1 to 67108864,
-- 4194304 where it is left out, and `--segments` from 1 to 64, 8 where it is left out
abbrev pub chunk_app : App
chunk_app = with_rule (with_rule (with_rule (new_app (codes "chunk"))
    (number_rule (codes "index") (Signed (pos 0) (pos 4294967295)) (codes "0")))
    (number_rule (codes "size") (Signed (pos 1) (pos 67108864)) (codes "4194304")))
    (number_rule (codes "segments") (Signed (pos 1) (pos 64)) (codes "8"))

-- `index`, without options
abbrev pub index_app : App
index_app = new_app (codes "index")

-- `range`, with `--from` and `--to` from 0 to 1099511627775, which have to be given, and `--workers`
-- from 0 to 16, 4 where it is left out
abbrev pub range_app : App
range_app = with_rule (with_rule (with_rule (new_app (codes "range"))
    (required_rule (codes "from") (Unsigned 0 1099511627775)))
    (required_rule (codes "to") (Unsigned 0 1099511627775)))
    (number_rule (codes "workers") (Signed (pos 0) (pos 16)) (codes "4"))

-- `sample`, with `--seed` from 0 to 4294967295, and `--columns` and `--rows` from 1 to 256 each;
-- all three have to be given
abbrev pub sample_app : App
sample_app = with_rule (with_rule (with_rule (new_app (codes "sample"))
    (required_rule (codes "seed") (Signed (pos 0) (pos 4294967295))))
    (required_rule (codes "columns") (Signed (pos 1) (pos 256))))
    (required_rule (codes "rows") (Signed (pos 1) (pos 256)))

-- one of the subcommands has to be named
abbrev pub requiring_subcommand : App → App
requiring_subcommand = on_top (λ s. record s { subcommand_required = true })

-- the program with the seven
abbrev pub lepton_app : App
lepton_app = with_subcommand (with_subcommand (with_subcommand (with_subcommand (with_subcommand
    (with_subcommand (with_subcommand (requiring_subcommand (new_app (codes "lepton")))
    encode_app.top) decode_app.top) migrate_app.top) chunk_app.top) index_app.top) range_app.top)
    sample_app.top

-- the kinds of error that clap may give at the words: none where it takes them
unfoldable pub faults : List Text → Kinds
faults words = fault_of lepton_app words

-- the subcommand that the words name, with what clap has of its options
unfoldable pub given : List Text → Option (Text × List Row)
given words = subcommand_of lepton_app words
