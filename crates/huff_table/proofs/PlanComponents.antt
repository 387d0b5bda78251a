-- Filling an array of four with the tables of one component after the other.
use Rattle.std.proofs.Common.{◌≡◌, ℕ, ◌≤◌, true, List, length, map, drop, replicate, Option, Some, None, refl, ◌∙◌}
use Rattle.jpeg_marker.specs.Plans.{are_indexes}
use Rattle.jpeg_marker.specs.declared.component.Component.{Component}
use Rattle.huff_table.specs.ComponentTables.{tables_of, component_at, no_codes, codes_with, codes_of}
use Rattle.huff_table.specs.declared.plan_codes.ComponentCodes.{ComponentCodes}
use Rattle.huff_table.proofs.FrameComponents.{index_of, put_all, value_or, all_put}

or_none : (found : Option Component) → value_or tables_of no_codes found ≡ codes_with found
or_none None = refl
or_none (Some c) = refl

-- all of them are the code words of the frame's components
pub codes_put : (all : List ComponentCodes) (given components : List Component) (i : ℕ) → given ≡ components → are_indexes 0 4 (map index_of components) ≡ true
    → length given ≤ i → put_all tables_of all (drop i given) ≡ put_all tables_of (replicate 4 no_codes) given → all ≡ codes_of components
codes_put all given components i same rising past rest =
    all_put tables_of no_codes all given components i same rising past rest
    ∙ rw (or_none (component_at components 0), or_none (component_at components 1), or_none (component_at components 2), or_none (component_at components 3)) refl
