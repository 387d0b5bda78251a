-- Steps: segments that one thread codes (own).
use Rattle.std.specs.Prelude.{ℕ, ◌≡◌, ◌+◌, ◌/◌, ◌≤◌, min, max, List, [], ◌∷◌, All, Some, None, length, map, vec_capacity}
use Rattle.std.specs.Int.{div_ceil}
use Rattle.scan_spec.specs.declared.refusal.ScanRefusal.{ScanRefusal}
use Rattle.segment_code.specs.ReadyParts.{EncoderSeen, IsEncoderFor, IsReady, ReadyFields}
use Rattle.segment_code.specs.ScanPasses.{IsNoPart, IsPartStream}
use Rattle.segment_code.specs.declared.error.ScanError.TheVariants.{Scan}
use Rattle.segment_encode.specs.declared.lanes.Lane.{Lane}

-- the most lanes
abbrev pub most_lanes : ℕ
most_lanes = 16

-- how many lanes a scan of so many blocks is worth: one for each 8,192 of them, but one at least
abbrev pub lanes_worth : ℕ → ℕ
lanes_worth blocks = min (max (blocks / 8192) 1) most_lanes

-- how many of these segments a lane has: an equal share, rounded up
abbrev pub in_a_lane : ℕ → ℕ → ℕ
in_a_lane segments blocks = div_ceil segments (lanes_worth blocks)

-- a segment is ready for an encoder
pub record CanCode (e : EncoderSeen) (r : ReadyFields) : Type 0 where
  pub ready : IsReady r
  pub encoder : IsEncoderFor r.part.plan e

-- the streams are those of the segments, in order, one for each
abbrev pub AreMade : List ReadyFields → List (List ℕ) → Type 0
AreMade [] [] = Unit {0}
AreMade [] (stream ∷ streams) = ⊥
AreMade (r ∷ rs) [] = ⊥
AreMade (r ∷ rs) (stream ∷ streams) = IsPartStream r.part stream × AreMade rs streams

-- each segment is rows of a file
abbrev pub AreOfAFile : List ReadyFields → Type 0
AreOfAFile rs = All (λ r. IsNoPart r.part → ⊥) rs

-- a lane before it is coded: it has room for a stream of each of its segments
pub record IsNewLane (lane : Lane) : Type 0 where
  pub ready : All (CanCode lane.encoder) lane.parts.items
  pub none : lane.streams.items ≡ []
  pub room : length lane.parts.items ≤ vec_capacity lane.streams
  pub fine : lane.error ≡ None

-- after it: it has the streams of the segments that it had before, or an error
pub record HasCoded (lane after : Lane) : Type 0 where
  pub made : after.error ≡ None
      → AreMade lane.parts.items (map (λ v. v.items) after.streams.items)
  pub refused : (refusal : ScanRefusal) → after.error ≡ Some (Scan refusal)
      → AreOfAFile lane.parts.items → ⊥

-- lanes after they were coded
abbrev pub AreCoded : List Lane → List Lane → Type 0
AreCoded [] [] = Unit {0}
AreCoded [] (after ∷ afters) = ⊥
AreCoded (lane ∷ lanes) [] = ⊥
AreCoded (lane ∷ lanes) (after ∷ afters) = HasCoded lane after × AreCoded lanes afters

abbrev pub parts_in : Lane → List ReadyFields
parts_in lane = lane.parts.items

-- what comes of segments, if each has the stream of its number, from `first` on
abbrev pub GiveEach : (ℕ → List ℕ) → ℕ → List ReadyFields → Type 0
GiveEach f first [] = Unit {0}
GiveEach f first (r ∷ rs) =
    ((stream : List ℕ) → IsPartStream r.part stream → stream ≡ f first) × GiveEach f (first + 1) rs

abbrev pub LaneMakes : Lane → List (List ℕ) → Type 0
LaneMakes lane streams = AreMade lane.parts.items streams

abbrev pub LaneRefused : Lane → Type 0
LaneRefused lane = AreOfAFile lane.parts.items → ⊥
