-- Statement: tables by class and number, and which ones are kept (ITU-T T.81, B.2.4.2).
use Rattle.std.specs.Prelude.{ℕ, ◌+◌, ◌*◌, List, [], ◌∷◌, get_or, Option, None}
use Rattle.jpeg_marker.specs.HuffmanTables.{Table, TableFields, latest}

-- a table by class and number, of tables that are kept four to a class
abbrev pub table_in : List (Option TableFields) → ℕ → ℕ → Option TableFields
table_in tables class number = get_or tables (4 * class + number) None

-- the tables of both classes by number, in the order in which they are kept
abbrev pub eight_tables : (ℕ → ℕ → Option TableFields) → List (Option TableFields)
eight_tables table =
    table 0 0 ∷ table 0 1 ∷ table 0 2 ∷ table 0 3
    ∷ table 1 0 ∷ table 1 1 ∷ table 1 2 ∷ table 1 3 ∷ []

-- the tables that are kept after more tables: a later one replaces an earlier one of its class and number
abbrev pub tables_kept : List (Option TableFields) → List Table → List (Option TableFields)
tables_kept before tables =
    eight_tables (λ class number. latest (table_in before class number) class number tables)
