-- Steps: what a portion is of, and what is asked of it after its segments (own).
use Rattle.std.specs.Prelude.{ℕ, ◌+◌, ◌*◌, ◌≡◌, ◌≤◌, nat_lt, Bool, true, false, List, length, Option, Some, None}
use Rattle.byte_window.specs.declared.window.Window.{Window}
use Rattle.byte_window.specs.Windows.{window}
use Rattle.handover.specs.ScanSums.{ScanPads}
use Rattle.box_format.specs.Parts.{BoxSeen, rows_most}
use Rattle.box_format.specs.Versions.{most_segments}
use Rattle.box_format.specs.Containers.{segment_count}
use Rattle.container_spec.specs.declared.kind.Kind.{Kind}
use Rattle.container_spec.specs.declared.kind.Kind.TheVariants.{File, Chunk, Range}
use Rattle.container_spec.specs.Portions.{Portion, played}
use Rattle.container_spec.specs.ScansJoined.{all_spelled, first_header}
use Rattle.segment_worker.specs.Contents.{Stretch, segment_room, stretch}
use Rattle.segment_worker.specs.declared.emitted.Emitted.{Emitted}

-- all segments of a container
abbrev pub all_segments : List BoxSeen → Stretch
all_segments scans = stretch scans 0 (segment_count scans)

-- those of a portion
abbrev pub stretch_of : List BoxSeen → Portion → Stretch
stretch_of scans p = stretch scans p.first p.count

-- a chunk's window is for the bytes that the chunk has of its segments
abbrev pub IsWindowed : Kind → List BoxSeen → Portion → Type 0
IsWindowed File scans p = Unit {0}
IsWindowed (Chunk c) scans p =
    p.within ≡ record { skip = c.skip; most = Some (rows_most c (first_header scans) p.after) }
IsWindowed Range scans p = Unit {0}

-- whether bytes end before a bound that comes after the first `skip` of them; never if there is none
abbrev pub ends_before : Option ℕ → ℕ → ℕ → Bool
ends_before None skip came = false
ends_before (Some most) skip came = nat_lt came (skip + most)

-- whether so many bytes are fewer than a window is for, which is asked of a chunk alone
abbrev pub falls_short : Kind → Window → ℕ → Bool
falls_short File w came = false
falls_short (Chunk c) w came = ends_before w.most w.skip came
falls_short Range w came = false

-- whether the pad bits of each scan are spelled as a file's, which is asked of a file alone
abbrev pub are_spelled : Kind → List BoxSeen → ScanPads → Bool
are_spelled File scans sums = all_spelled 0 scans sums
are_spelled (Chunk c) scans sums = true
are_spelled Range scans sums = true

-- all segments of a portion ended well, and this was counted of them
pub record IsEmitted (scans : List BoxSeen) (p : Portion) (emitted : Emitted) : Type 0 where
  pub good : (played scans p).fault ≡ None
  pub bytes : emitted.bytes ≡ length (window p.within (played scans p).bytes)
  pub pads : emitted.pads ≡ (played scans p).padded
  pub came : emitted.came ≡ length (played scans p).bytes
  pub few : length (played scans p).bytes ≤ segment_room * most_segments
