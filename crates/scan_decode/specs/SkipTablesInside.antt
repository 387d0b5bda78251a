-- View: the tables of what twelve bits skip, as the scan that they are of, and what always holds of them (own).
use Rattle.std.specs.Prelude.{map}
use Rattle.scan_spec.specs.Slots.{Shape}
use Rattle.scan_decode.specs.SkipWords.{AreSkipSlots}
use Rattle.scan_decode.specs.declared.skip_tables.SkipTables.TheInside.{Inside}

abbrev pub shape_in : Inside → Shape
shape_in t = t.shape

abbrev pub AreSkipTables : Inside → Type 0
AreSkipTables t = AreSkipSlots t.shape.slots (map (λ v. v.items) t.words.items)
