-- A chunk of a file has one container of each number of segments.
use Rattle.std.proofs.Common.{◌≡◌, ℕ, Bool, List, length, take, sym, ap, ap₂, ◌∙◌}
use Rattle.jpeg_marker.specs.FirstWalks.{only_walk}
use Rattle.jpeg_marker.proofs.HeadersTaken.{none_known}
use Rattle.jpeg_marker.specs.Plans.{PlanFields}
use Rattle.scan_spec.specs.Scans.{Mcu, pad_at, scan_bytes}
use Rattle.scan_spec.specs.Slots.{shape_of}
use Rattle.scan_spec.proofs.FilesOnce.{one_scan_of}
use Rattle.byte_window.specs.Slices.{chunk_from, chunk_to}
use Rattle.box_format.specs.Single.{box_bytes}
use Rattle.container_spec.specs.ChunkLaws.{OneChunk}
use Rattle.container_spec.specs.Chunks.{parts_of_chunk}

-- a chunk's container, by what the file determines
abbrev box_of : ℕ → ℕ → ℕ → List ℕ → PlanFields → List Mcu → List Bool → List ℕ → List ℕ → List ℕ
box_of most size i file plan mcus pads scan trailer =
    box_bytes (parts_of_chunk plan mcus pads (take plan.header_length file) scan trailer
    (chunk_from size i) (chunk_to (length file) size i) most)

pub one_chunk : OneChunk
one_chunk most size i made other file x y =
    let same =
    one_scan_of only_walk file x.trailer y.trailer x.plan y.plan x.mcus y.mcus x.pads y.pads x.bytes
    none_known x.is y.is in
    let text =
    sym x.is.is.text
    ∙ ap₂ (λ (plan : PlanFields) mcus. scan_bytes (shape_of plan) (pad_at x.pads) mcus) same.0 same.1
    ∙ ap (λ pads. scan_bytes (shape_of y.plan) (pad_at pads) y.mcus) same.2 ∙ y.is.is.text in
    let scan : x.is.scan ≡ y.is.scan = cc in
    x.spelled
    ∙ ap₂ (λ plan mcus. box_of most size i file plan mcus x.pads x.is.scan x.trailer) same.0 same.1
    ∙ ap₂ (λ pads scan. box_of most size i file y.plan y.mcus pads scan x.trailer) same.2 scan
    ∙ ap (λ trailer. box_of most size i file y.plan y.mcus y.pads y.is.scan trailer) same.3
    ∙ sym y.spelled
