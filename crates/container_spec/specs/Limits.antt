-- Statement: how long files and containers may be (docs/FORMAT.md, Limits).
use Rattle.std.specs.Prelude.{ℕ}

-- the most bytes of a file that is encoded: 64 MiB
abbrev pub most_of_a_file : ℕ
most_of_a_file = 67108864

-- the most bytes of a container that is decoded or migrated: 32 GiB
abbrev pub most_of_a_container : ℕ
most_of_a_container = 34359738368
