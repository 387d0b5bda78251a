-- Statement: the container with places of a container, and how others end (docs/FORMAT.md, Version 5).
use Rattle.std.specs.Prelude.{ℕ, ◌≡◌, List}
use Rattle.jpeg_marker.specs.Plans.{PlanFields}
use Rattle.box_format.specs.Parts.{BoxParts}
use Rattle.box_format.specs.Single.{IsBoxOf, box_bytes}
use Rattle.box_format.specs.Versions.{IsRead, indexable}
use Rattle.container_spec.specs.Meanings.{Verdict, Restored}
use Rattle.container_spec.specs.Portions.{meaning_of}
use Rattle.container_spec.specs.Indexed.{indexed}

-- the bytes are a container that is indexed, which ends so
abbrev pub IndexEnds : List ℕ → Verdict → Type 0
IndexEnds bytes verdict =
    (plan : PlanFields) × (b : BoxParts) × IsBoxOf plan b bytes × IsRead indexable b.version
    × ((meaning_of plan b).verdict ≡ verdict)

-- `made` is the same container with the places of its segments: one that stands for a file
abbrev pub IsIndexOf : List ℕ → List ℕ → Type 0
IsIndexOf made bytes =
    (plan : PlanFields) × (b : BoxParts) × IsBoxOf plan b bytes × IsRead indexable b.version
    × ((meaning_of plan b).verdict ≡ Restored)
    × (made ≡ box_bytes (indexed plan b))
