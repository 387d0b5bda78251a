-- Law: what holds of containers of one scan (own).
use Rattle.std.specs.Prelude.{ℕ, ◌≡◌, ◌⊎◌, false, List, [], ◌∷◌, ◌++◌, take, drop}
use Rattle.jpeg_marker.specs.Plans.{PlanFields}
use Rattle.box_format.specs.Versions.{layout_of}
use Rattle.box_format.specs.Parts.{BoxParts, BoxSeen, migrated}
use Rattle.box_format.specs.Containers.{IsContainer, IsContainerIn}
use Rattle.box_format.specs.Single.{IsBox, IsBoxOf, box_bytes}
use Rattle.box_format.specs.declared.version.Version.TheVariants.{First, Second, Fourth}

-- a container of one scan is a container
abbrev pub OneIsContainer : Type 0
OneIsContainer =
    (s : BoxSeen) (bytes : List ℕ) → IsBoxOf s.plan s.parts bytes
    → IsContainerIn s.parts.version (s ∷ []) bytes

-- and a container is one of one scan, or of several
abbrev pub OneOrSeveral : Type 0
OneOrSeveral =
    (scans : List BoxSeen) (bytes : List ℕ) → IsContainer scans bytes
    → ((s : BoxSeen) × (scans ≡ s ∷ []) × IsBoxOf s.plan s.parts bytes)
    ⊎ IsContainerIn Fourth scans bytes

-- a container of the second version is migrated already
abbrev pub SecondStays : Type 0
SecondStays =
    (plan : PlanFields) (b : BoxParts) → IsBox plan b → b.version ≡ Second → migrated b ≡ b

-- the parts of a container that has no chunk are, without its places, those of one of the second version too
abbrev pub MigratedIsBox : Type 0
MigratedIsBox =
    (plan : PlanFields) (b : BoxParts) → (layout_of b.version).chunked ≡ false → IsBox plan b
    → IsBox plan (migrated b)

-- the bytes of a container of the first version as those of one of the second: the version's byte is changed, and a
-- length of 0 for the pad list follows the trailer's length
abbrev pub relaid : List ℕ → List ℕ
relaid bytes =
    take 4 bytes ++ (layout_of Second).byte ∷ [] ++ take 10 (drop 5 bytes)
    ++ 0 ∷ 0 ∷ 0 ∷ 0 ∷ [] ++ drop 15 bytes

-- the bytes of a migrated container of the first version are its own, laid out so
abbrev pub RelaidIsMigrated : Type 0
RelaidIsMigrated =
    (plan : PlanFields) (b : BoxParts) → IsBox plan b → b.version ≡ First
    → relaid (box_bytes b) ≡ box_bytes (migrated b)
