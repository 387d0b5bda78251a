-- Statement: the tables of a component, and those of all components of the frame (ITU-T T.81, B.2.3).
use Rattle.std.specs.Prelude.{ℕ, List, [], ◌∷◌, map, Option, Some, None, ◌==◌}
use Rattle.std.specs.List.{find}
use Rattle.jpeg_marker.specs.HuffmanTables.{no_table}
use Rattle.jpeg_marker.specs.declared.component.Component.{Component}
use Rattle.huff_table.specs.declared.plan_codes.ComponentCodes.{ComponentCodes}

-- the two tables of a component (B.2.3)
abbrev pub tables_of : Component → ComponentCodes
tables_of c = record { dc = c.dc; ac = c.ac }

-- the component of an index in the frame, if the scan has it
abbrev pub component_at : List Component → ℕ → Option Component
component_at components index = find (λ c. c.index == index) components

-- the tables of a component that the scan leaves out: no code words (own)
abbrev pub no_codes : ComponentCodes
no_codes = record { dc = no_table; ac = no_table }

-- the tables of a component, if the scan has it
abbrev pub codes_with : Option Component → ComponentCodes
codes_with None = no_codes
codes_with (Some c) = tables_of c

-- the tables of each component of the frame, by its index: no code words for one that the scan leaves out
abbrev pub codes_of : List Component → List ComponentCodes
codes_of components =
    map (λ index. codes_with (component_at components index)) (0 ∷ 1 ∷ 2 ∷ 3 ∷ [])
