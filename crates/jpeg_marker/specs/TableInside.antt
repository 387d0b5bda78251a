-- View: a table by its fields, and what holds of them (own).
use Rattle.std.specs.Prelude.{◌-◌, ◌≡◌, ◌++◌, length, take, replicate}
use Rattle.jpeg_marker.specs.HuffmanTables.{TableFields, IsTable}
use Rattle.jpeg_marker.specs.declared.table.RawTable.TheInside.{Inside}

-- a table of the values that there are
abbrev pub fields_of : Inside → TableFields
fields_of t = record { counts = t.counts; values = take t.length t.values }

-- after the last value there are zeros, so that the values determine what is kept
pub record AreFields (t : Inside) : Type 0 where
  pub table : IsTable (fields_of t)
  pub long : length (take t.length t.values) ≡ t.length
  pub blank : t.values ≡ take t.length t.values ++ replicate (256 - t.length) 0

-- what is kept of it
abbrev pub inside_of : TableFields → Inside
inside_of t = record {
  counts = t.counts;
  values = t.values ++ replicate (256 - length t.values) 0;
  length = length t.values;
}
