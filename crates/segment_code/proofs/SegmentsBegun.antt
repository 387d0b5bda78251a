-- Where a decoder stands that begins a segment.
use Rattle.std.proofs.Common.{◌≡◌, ℕ, ◌+◌, ◌*◌, ◌<◌, ◌≤◌, true, List, [], refl, ap}
use Rattle.std.specs.Prelude.{Option}
use Rattle.adapt_bins.specs.GotEvents.{HasGot}
use Rattle.adapt_bins.specs.declared.get.Get.{Get}
use Rattle.jpeg_marker.specs.Plans.{PlanFields}
use Rattle.scan_spec.specs.Pads.{PadBits}
use Rattle.scan_spec.specs.ScanCalls.{ScanWriter}
use Rattle.scan_spec.specs.Slots.{shape_of}
use Rattle.handover.specs.Handovers.{HandoverFields}
use Rattle.cut_spec.specs.HandedOver.{writer_from}
use Rattle.block_spec.specs.Grid.{Grid, IsGrid}
use Rattle.block_spec.specs.SegmentEvents.{segment_events}
use Rattle.block_code.specs.SegmentUnderWay.{HoldsUpTo}
use Rattle.block_spec.specs.ReadingLaws.{HaveGiven}
use Rattle.container_spec.specs.ScanStream.{grid_of, starts}
use Rattle.container_spec.specs.SegmentLaws.{Suits}
use Rattle.container_spec.specs.Segments.{SegmentFields, first_progress}
use Rattle.segment_code.specs.BegunSegments.{segment_with}
use Rattle.segment_code.specs.Decoding.{DecoderSeen, StandsAt}

nothing_given : (g : Grid) (stream : List ℕ) → IsGrid g → HaveGiven g stream []
unfolding segment_events
nothing_given g stream is = record { grid = is; each = tt; reading = refl }

nothing_got : (g : Grid) (coder : Get) (stream : List ℕ) → HasGot coder stream []
    → HasGot coder stream (segment_events g [])
unfolding segment_events
nothing_got g coder stream got = got

-- a decoder with a segment's parts, before its first MCU
pub record IsBegun (d : DecoderSeen) (plan : PlanFields) (s : SegmentFields) (pads : PadBits)
    : Type 0 where
  pub suits : Suits (shape_of plan) (grid_of plan)
  pub some : 0 < s.count
  pub within : s.from + s.count ≤ plan.across * plan.down
  pub running : d.running ≡ true
  pub number : d.number ≡ s.number
  pub left : d.left ≡ s.count
  pub next : d.next ≡ s.next
  pub kept : d.kept ≡ s.kept
  pub writer : d.writer ≡ writer_from (shape_of plan) pads s.start s.from
  pub started : d.started ≡ starts s.stream
  pub got : d.started ≡ true → HasGot d.coder s.stream []
  pub grid : d.segment.grid ≡ grid_of plan
  pub held : HoldsUpTo d.segment []

pub stands_first : (d : DecoderSeen) (plan : PlanFields) (number : ℕ) (stream : List ℕ)
    (start : HandoverFields) (row count : ℕ) (next : Option HandoverFields) (kept : Option ℕ)
    (pads : PadBits) → IsBegun d plan (segment_with plan number stream start row count next kept pads) pads
    → (let s = segment_with plan number stream start row count next kept pads in
    StandsAt d s count (first_progress s))
stands_first d plan number stream start row count next kept pads is = record {
  holds = record {
    running = is.running;
    within = is.within;
    suits = is.suits;
    number = is.number;
    still = is.left;
    next = is.next;
    kept = is.kept;
    shape = ap (λ (w : ScanWriter). w.shape) is.writer;
    pads = ap (λ (w : ScanWriter). w.pads) is.writer;
    spot = ap (λ (w : ScanWriter). w.spot) is.writer;
    padded = ap (λ (w : ScanWriter). w.padded) is.writer;
    unstopped = ap (λ (w : ScanWriter). w.stop) is.writer;
  };
  some = is.some;
  started = is.started;
  decoded = λ started. record {
    given = nothing_given (grid_of plan) stream (let suits = is.suits in suits.grid_is);
    got = nothing_got (grid_of plan) d.coder stream (is.got started);
    grid = is.grid;
    held = is.held;
  };
}
