-- Statement: a container of one scan (docs/FORMAT.md, The container).
use Rattle.std.specs.Prelude.{ℕ, ◌≡◌, false, List, [], ◌∷◌}
use Rattle.jpeg_marker.specs.Plans.{PlanFields}
use Rattle.jpeg_marker.specs.FirstWalks.{only_walk}
use Rattle.box_format.specs.Versions.{layout_of, IsRead}
use Rattle.box_format.specs.Parts.{BoxParts, BoxSeen, IsBoxIn}
use Rattle.box_format.specs.Containers.{container_bytes}
use Rattle.box_format.specs.declared.version.Version.{Version}

-- its bytes
abbrev pub box_bytes : BoxParts → List ℕ
box_bytes b = container_bytes b.version (b ∷ [])

-- its parts: the header is that of a file of one scan
abbrev pub IsBox : PlanFields → BoxParts → Type 0
IsBox plan b = IsBoxIn only_walk plan b

-- the bytes are the container of these parts
pub record IsBoxOf (plan : PlanFields) (b : BoxParts) (bytes : List ℕ) : Type 0 where
  pub box : IsBox plan b
  pub one : (layout_of b.version).several ≡ false
  pub text : bytes ≡ box_bytes b

-- the bytes are the container of this one scan, in one of these versions
abbrev pub IsOne : List Version → List BoxSeen → List ℕ → Type 0
IsOne versions scans bytes =
    (s : BoxSeen) × (scans ≡ s ∷ []) × IsBoxOf s.plan s.parts bytes × IsRead versions s.parts.version
