-- Statement: the bytes and the outcome of each segment of a container of one scan or of several (docs/FORMAT.md, What
-- a container stands for).
use Rattle.std.specs.Prelude.{ℕ, ◌+◌, ◌-◌, ◌==◌, ◌&&◌, nat_lt, Bool, true, false, if◌then◌else◌, List, [], ◌∷◌, length}
use Rattle.handover.specs.PadSums.{no_pads}
use Rattle.handover.specs.declared.outcome.StreamFault.{StreamFault}
use Rattle.handover.specs.declared.outcome.Outcome.{Outcome}
use Rattle.handover.specs.declared.outcome.Outcome.TheVariants.{Good, Bad}
use Rattle.box_format.specs.Parts.{BoxSeen}
use Rattle.container_spec.specs.Segments.{Output, segment_output, with_prefix}
use Rattle.container_spec.specs.Meanings.{segment_in}

-- Segments are numbered on through the scans.

-- a fault of a scan's segment, after `first` segments of the scans before
abbrev pub fault_after : ℕ → StreamFault → StreamFault
fault_after first fault = record { segment = first + fault.segment; cause = fault.cause }

abbrev pub outcome_after : ℕ → Outcome → Outcome
outcome_after first (Good padded) = Good padded
outcome_after first (Bad fault) = Bad (fault_after first fault)

-- what comes before the bytes of segment i of a scan: its header, if it is the first one of a later scan
abbrev pub lead_of : Bool → List ℕ → ℕ → List ℕ
lead_of later header i = if later && i == 0 then header else []

-- those of segment i of a scan, after `first` segments of the scans before
abbrev pub led_output : Bool → ℕ → BoxSeen → ℕ → Output
led_output later first s i =
    let output = segment_output (segment_in s.plan s.parts i) in
    with_prefix (lead_of later s.parts.header i) (output.0, outcome_after first output.1)

-- those of segment i of scans
abbrev pub output_from : Bool → ℕ → List BoxSeen → ℕ → Output
output_from later first [] i = ([], Good no_pads)
output_from later first (s ∷ scans) i =
    let count = length s.parts.handovers in
    if nat_lt i count then led_output later first s i
    else output_from true (first + count) scans (i - count)

-- and of all scans of a container
abbrev pub output_at : List BoxSeen → ℕ → Output
output_at scans i = output_from false 0 scans i

-- what comes before the bytes of segment i of scans
abbrev pub lead_from : Bool → List BoxSeen → ℕ → List ℕ
lead_from later [] i = []
lead_from later (s ∷ scans) i =
    let count = length s.parts.handovers in
    if nat_lt i count then lead_of later s.parts.header i else lead_from true scans (i - count)

-- and of all scans of a container
abbrev pub lead_at : List BoxSeen → ℕ → List ℕ
lead_at scans i = lead_from false scans i

-- the number of the scan that has segment i
abbrev pub scan_of : ℕ → List BoxSeen → ℕ → ℕ
scan_of scan [] i = scan
scan_of scan (s ∷ scans) i =
    let count = length s.parts.handovers in
    if nat_lt i count then scan else scan_of (scan + 1) scans (i - count)
