-- Steps: the streams of the segments between two passes over a scan (own).
use Rattle.std.specs.Prelude.{ℕ, ◌≡◌, ◌+◌, Bool, List, map}
use Rattle.std.specs.List.{range_with_len}
use Rattle.scan_spec.specs.Items.{Refuses}
use Rattle.scan_spec.specs.Scans.{Mcu}
use Rattle.scan_spec.specs.Slots.{shape_of}
use Rattle.scan_spec.specs.declared.refusal.ScanRefusal.{ScanRefusal}
use Rattle.container_spec.specs.Files.{segment_mcus}
use Rattle.container_spec.specs.ScanStream.{stream_of}
use Rattle.segment_code.specs.ReadyParts.{ReadyFields}
use Rattle.segment_code.specs.ScanPasses.{IsPass, PassFields, passed, segments_left}
use Rattle.segment_code.specs.Starting.{IsFileAt}
use Rattle.segment_encode.specs.Lanes.{AreOfAFile, GiveEach}

-- from one pass to another after the last segment; where the bytes are a file's, the streams are those of the segments
-- that were left
pub record AreStreams (old new : PassFields) (streams : List (List ℕ)) : Type 0 where
  pub is : IsPass new
  pub none : segments_left new ≡ 0
  pub same : new ≡ record old { reader = new.reader; starts = new.starts; pads = new.pads }
  pub each : (mcus : List Mcu) (pads : List Bool) (trailer : ℕ)
      → IsFileAt old.bytes old.plan mcus pads trailer
      → streams ≡ map (λ i. stream_of old.plan (segment_mcus old.plan mcus old.most i))
      (range_with_len (passed old) (segments_left old))

-- from one pass to another of the same scan, past `count` segments more
pub record HasPassedOn (count : ℕ) (old new : PassFields) : Type 0 where
  pub is : IsPass new
  pub more : passed new ≡ passed old + count
  pub same : new ≡ record old { reader = new.reader; starts = new.starts; pads = new.pads }

-- the segments that a pass comes to next: where the bytes are a file's, each has its stream
abbrev pub ArePassed : PassFields → List ReadyFields → Type 0
ArePassed p rs =
    (mcus : List Mcu) (pads : List Bool) (trailer : ℕ) → IsFileAt p.bytes p.plan mcus pads trailer
    → GiveEach (λ i. stream_of p.plan (segment_mcus p.plan mcus p.most i)) (passed p) rs
    × AreOfAFile rs

-- a refusal after a segment is the scan's
abbrev pub PassRefuses : PassFields → ScanRefusal → Type 0
PassRefuses p refusal = Refuses (shape_of p.plan) p.bytes p.plan.header_length refusal
