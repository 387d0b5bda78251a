-- Statement: what is known before a header is a frame and tables (ITU-T T.81, B.2.2, B.2.4.2).
use Rattle.std.specs.Prelude.{ℕ, ◌<◌, List, IfSome}
use Rattle.std.specs.List.{AllByRecursion}
use Rattle.jpeg_marker.specs.HuffmanTables.{TableFields, IsTable}
use Rattle.jpeg_marker.specs.Frames.{IsFrame}
use Rattle.jpeg_marker.specs.declared.definitions.Definitions.{Definitions}

-- numbers that are bytes
abbrev pub AreBytes : List ℕ → Type 0
AreBytes numbers = AllByRecursion (λ n. n < 256) numbers

-- a table whose values are bytes (B.2.4.2)
pub record IsSound (t : TableFields) : Type 0 where
  pub table : IsTable t
  pub bytes : AreBytes t.values

-- if there is a frame, it is one, and the tables are tables
pub record AreKnown (known : Definitions) : Type 0 where
  pub frame : IfSome known.frame IsFrame
  pub tables : AllByRecursion (λ t. IfSome t IsSound) known.tables
