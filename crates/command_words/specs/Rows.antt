-- Rows: arguments, and what they mean (own).
use Rattle.std.specs.Prelude.{List, [], ◌∷◌, codes}
use Rattle.clap.specs.Words.{Text}
use Rattle.command_words.specs.declared.command.Command.{Command}
use Rattle.command_words.specs.declared.command.Command.TheVariants.{Chunk, Decode, Encode, Index, Migrate, Range, Sample}

-- a line of words begins with the program's name
abbrev pub line : List Text → List Text
line words = codes "lepton" ∷ words

-- `encode`, `decode`, `chunk`, `range` and `sample`, with these words after it
abbrev pub encode_with : List Text → List Text
encode_with words = codes "encode" ∷ words

abbrev pub decode_with : List Text → List Text
decode_with words = codes "decode" ∷ words

abbrev pub chunk_with : List Text → List Text
chunk_with words = codes "chunk" ∷ words

abbrev pub range_with : List Text → List Text
range_with words = codes "range" ∷ words

abbrev pub sample_with : List Text → List Text
sample_with words = codes "sample" ∷ words

-- `range` with its options in the order from, to
abbrev pub range_of : Text → Text → List Text
range_of from to = range_with (codes "--from" ∷ from ∷ codes "--to" ∷ to ∷ [])

-- `sample` with its options in the order seed, columns, rows
abbrev pub sample_of : Text → Text → Text → List Text
sample_of seed columns rows = sample_with (codes "--seed" ∷ seed ∷ codes "--columns" ∷ columns
    ∷ codes "--rows" ∷ rows ∷ [])

-- words with the command that they mean
abbrev pub meant : List (List Text × Command)
meant = (encode_with [], Encode 8)
    ∷ (decode_with [], Decode 4)
    ∷ (encode_with (codes "--segments" ∷ codes "3" ∷ []), Encode 3)
    ∷ (encode_with (codes "--segments=64" ∷ []), Encode 64)
    ∷ (encode_with (codes "--segments" ∷ codes "08" ∷ []), Encode 8)
    ∷ (decode_with (codes "--workers" ∷ codes "0" ∷ []), Decode 0)
    ∷ (decode_with (codes "--workers=16" ∷ []), Decode 16)
    ∷ (codes "migrate" ∷ [], Migrate)
    ∷ (chunk_with [], Chunk 0 4194304 8)
    ∷ (chunk_with (codes "--index=0" ∷ []), Chunk 0 4194304 8)
    ∷ (chunk_with (codes "--index" ∷ codes "4294967295" ∷ []), Chunk 4294967295 4194304 8)
    ∷ (chunk_with (codes "--size" ∷ codes "1" ∷ []), Chunk 0 1 8)
    ∷ (chunk_with (codes "--size=67108864" ∷ []), Chunk 0 67108864 8)
    ∷ (chunk_with (codes "--segments=1" ∷ []), Chunk 0 4194304 1)
    ∷ (chunk_with (codes "--segments" ∷ codes "64" ∷ []), Chunk 0 4194304 64)
    ∷ (
      chunk_with (codes "--segments" ∷ codes "2" ∷ codes "--index=3" ∷ codes "--size" ∷ codes "4" ∷ []),
      Chunk 3 4 2,
    )
    ∷ (codes "index" ∷ [], Index)
    ∷ (range_of (codes "0") (codes "1099511627775"), Range 0 1099511627775 4)
    ∷ (
      range_with (codes "--workers" ∷ codes "0" ∷ codes "--to=6" ∷ codes "--from" ∷ codes "5" ∷ []),
      Range 5 6 0,
    )
    ∷ (sample_of (codes "2") (codes "256") (codes "256"), Sample 2 256 256)
    ∷ (
      sample_with (codes "--rows=3" ∷ codes "--seed=0" ∷ codes "--columns" ∷ codes "4" ∷ []),
      Sample 0 4 3,
    )
    ∷ (sample_of (codes "4294967295") (codes "1") (codes "1"), Sample 4294967295 1 1)
    ∷ []

-- words that mean no command
abbrev pub meaningless : List (List Text)
meaningless = []
    ∷ (codes "recode" ∷ [])
    ∷ (codes "help" ∷ [])
    ∷ (codes "--help" ∷ [])
    ∷ (codes "--version" ∷ [])
    ∷ encode_with (codes "--help" ∷ [])
    ∷ encode_with (codes "x" ∷ [])
    ∷ encode_with (codes "--workers" ∷ codes "1" ∷ [])
    ∷ encode_with (codes "--segments" ∷ [])
    ∷ encode_with (codes "--segments" ∷ [] ∷ [])
    ∷ encode_with (codes "--segments" ∷ codes "0" ∷ [])
    ∷ encode_with (codes "--segments" ∷ codes "65" ∷ [])
    ∷ encode_with (codes "--segments" ∷ codes "-1" ∷ [])
    ∷ encode_with (codes "--segments" ∷ codes "8" ∷ codes "--segments" ∷ codes "9" ∷ [])
    ∷ decode_with (codes "--workers" ∷ codes "17" ∷ [])
    ∷ decode_with (codes "--segments" ∷ codes "8" ∷ [])
    ∷ (codes "migrate" ∷ codes "--segments" ∷ codes "8" ∷ [])
    ∷ (codes "migrate" ∷ codes "x" ∷ [])
    ∷ chunk_with (codes "--index" ∷ codes "4294967296" ∷ [])
    ∷ chunk_with (codes "--index" ∷ codes "-1" ∷ [])
    ∷ chunk_with (codes "--size" ∷ codes "0" ∷ [])
    ∷ chunk_with (codes "--size" ∷ codes "67108865" ∷ [])
    ∷ chunk_with (codes "--size" ∷ codes "-1" ∷ [])
    ∷ chunk_with (codes "--segments" ∷ codes "0" ∷ [])
    ∷ chunk_with (codes "--segments" ∷ codes "65" ∷ [])
    ∷ chunk_with (codes "--segments" ∷ codes "-1" ∷ [])
    ∷ chunk_with (codes "--index" ∷ codes "1" ∷ codes "--index" ∷ codes "1" ∷ [])
    ∷ chunk_with (codes "--workers" ∷ codes "1" ∷ [])
    ∷ chunk_with (codes "x" ∷ [])
    ∷ (codes "index" ∷ codes "--workers" ∷ codes "1" ∷ [])
    ∷ range_with []
    ∷ range_with (codes "--from" ∷ codes "1" ∷ [])
    ∷ range_with (codes "--to" ∷ codes "1" ∷ [])
    ∷ range_of (codes "0") (codes "1099511627776")
    ∷ range_of (codes "1099511627776") (codes "0")
    ∷ range_of (codes "-1") (codes "1")
    ∷ range_of (codes "0") (codes "18446744073709551616")
    ∷ range_with (codes "--from=0" ∷ codes "--to=1" ∷ codes "--workers=17" ∷ [])
    ∷ sample_with []
    ∷ sample_with (codes "--seed" ∷ codes "1" ∷ codes "--columns" ∷ codes "1" ∷ [])
    ∷ sample_with (codes "--seed" ∷ codes "1" ∷ codes "--rows" ∷ codes "1" ∷ [])
    ∷ sample_with (codes "--columns" ∷ codes "1" ∷ codes "--rows" ∷ codes "1" ∷ [])
    ∷ sample_of (codes "1") (codes "0") (codes "1")
    ∷ sample_of (codes "1") (codes "257") (codes "1")
    ∷ sample_of (codes "1") (codes "1") (codes "0")
    ∷ sample_of (codes "1") (codes "1") (codes "257")
    ∷ sample_of (codes "4294967296") (codes "1") (codes "1")
    ∷ sample_of (codes "-1") (codes "1") (codes "1")
    ∷ encode_with (codes "--seed" ∷ codes "1" ∷ [])
    ∷ []
