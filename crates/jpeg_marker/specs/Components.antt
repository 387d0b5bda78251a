-- View: what is kept after the last component (own).
use Rattle.jpeg_marker.specs.HuffmanTables.{no_table}
use Rattle.jpeg_marker.specs.declared.component.Component.{Component}

-- a component of zeros, without code words (own)
abbrev pub no_component : Component
no_component = record { index = 0; id = 0; h = 0; v = 0; dc = no_table; ac = no_table }
