-- View: what holds of the code words of every component (ITU-T T.81, B.2.4.2).
use Rattle.jpeg_marker.specs.HuffmanTables.{IsTable}
use Rattle.jpeg_marker.specs.KnownBefore.{AreBytes}
use Rattle.huff_table.specs.declared.plan_codes.ComponentCodes.{ComponentCodes}

-- both tables are tables, and their values bytes (B.2.4.2)
pub record AreTables (codes : ComponentCodes) : Type 0 where
  pub dc : IsTable codes.dc
  pub ac : IsTable codes.ac
  pub dc_bytes : AreBytes codes.dc.values
  pub ac_bytes : AreBytes codes.ac.values
