-- The slots of a plan by components' indexes.
use Rattle.std.proofs.Common.{◌≡◌, ◌+◌, ◌<◌, ◌++◌, ◌∷◌, [], ℕ, zero, suc, List, map, replicate, get_or, refl, ap, ap₂, ◌∙◌}
use Rattle.std.specs.Prelude.{flat_map}
use Rattle.std.specs.List.{All, AllByRecursion}
use Rattle.std.proofs.lemmas.List.{map-append}
use Rattle.std.proofs.lemmas.List.Elements.{All-append, All-replicate, All-nil}
use Rattle.jpeg_marker.specs.Frames.{area}
use Rattle.jpeg_marker.specs.Plans.{part_of}
use Rattle.jpeg_marker.specs.declared.component.Component.{Component}
use Rattle.jpeg_marker.proofs.Choices.{Rising}
use Rattle.huff_table.specs.ComponentTables.{tables_of, no_codes, codes_of}
use Rattle.huff_table.specs.declared.plan_codes.ComponentCodes.{ComponentCodes}
use Rattle.huff_table.proofs.FrameComponents.{index_of, IsFound, found_each, codes_found}
use Rattle.scan_spec.specs.Slots.{Shape, slot_of, slots_of}
use Rattle.scan_spec.specs.ShapeInside.{slot_in, each_index, component_indexes}
use Rattle.scan_spec.specs.declared.slot.Slot.{Slot}

same_slots : (codes : List ComponentCodes) (n : ℕ) (c : Component) → get_or codes c.index no_codes ≡ tables_of c → map (slot_in codes) (replicate n c.index) ≡ replicate n (slot_of c)
same_slots codes zero c e = refl
same_slots codes (suc n) c e =
    ap₂ (λ (s : Slot) (l : List Slot). s ∷ l) (ap (λ (t : ComponentCodes). record { component = c.index; codes = t }) e) (same_slots codes n c e)

slots_found : (all : List Component) (from : ℕ) (components : List Component) → AllByRecursion (IsFound all from) components
    → map (slot_in (codes_of all)) (each_index components) ≡ flat_map (λ part. replicate (area (part_of part)) (slot_of part)) components
slots_found all from [] found = refl
slots_found all from (c ∷ components) found =
    map-append (slot_in (codes_of all)) (replicate (area (part_of c)) c.index) (each_index components)
    ∙ ap₂ ◌++◌ (same_slots (codes_of all) (area (part_of c)) c (codes_found all from c found.0)) (slots_found all from components found.1)

-- slots by index are those of the plan
pub slots_by_index : (components : List Component) → Rising 0 4 (map index_of components) → map (slot_in (codes_of components)) (component_indexes components) ≡ slots_of components
slots_by_index [] rising = refl
slots_by_index (c ∷ []) rising = same_slots (codes_of (c ∷ [])) 1 c (codes_found (c ∷ []) 0 c (found_each 0 (c ∷ []) rising).0)
slots_by_index (c ∷ d ∷ components) rising = slots_found (c ∷ d ∷ components) 0 (c ∷ d ∷ components) (found_each 0 (c ∷ d ∷ components) rising)

each_within : (from : ℕ) (components : List Component) → Rising from 4 (map index_of components) → All (λ i. i < 4) (each_index components)
each_within from [] rising = All-nil (λ i. i < 4)
each_within from (c ∷ components) rising =
    All-append (λ i. i < 4) (replicate (area (part_of c)) c.index) (each_index components)
    (All-replicate (λ i. i < 4) (area (part_of c)) c.index rising.1)
    (each_within (c.index + 1) components rising.2)

-- each is the index of a component of the frame
pub slots_within : (components : List Component) → Rising 0 4 (map index_of components) → All (λ i. i < 4) (component_indexes components)
slots_within [] rising = All-nil (λ i. i < 4)
slots_within (c ∷ []) rising = All-replicate (λ i. i < 4) 1 c.index rising.1
slots_within (c ∷ d ∷ components) rising = each_within 0 (c ∷ d ∷ components) rising

abbrev shape_with : List Slot → ℕ → ℕ → Shape
shape_with slots mcus interval = record { slots = slots; mcus = mcus; interval = interval }

-- shapes of the same parts are the same
pub shape_is : (slots others : List Slot) (mcus count interval between : ℕ) → slots ≡ others → mcus ≡ count → interval ≡ between
    → shape_with slots mcus interval ≡ shape_with others count between
shape_is slots others mcus count interval between e f g = rw (e, f, g) refl
