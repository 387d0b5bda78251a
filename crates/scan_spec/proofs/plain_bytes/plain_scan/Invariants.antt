use Rattle.std.proofs.Common.{◌≡◌, ◌-◌, ◌*◌, ◌<◌, ◌≤◌, length}
use Rattle.scan_spec.specs.Scans.{intervals_after, prefixed_bytes, intervals_bytes, scan_bytes}
use Rattle.scan_spec.specs.PlainScans.{shape_with, mcus_in}
use Rattle.scan_spec.proofs.plain_bytes.plain_scan.Given as goal

abbrev pub invariant-intervals : goal.invariant-intervals
invariant-intervals l = record {
  goes : scan_bytes (shape_with l.slots l.mcus l.interval) (λ n. l.pad) (mcus_in (length l.slots) l.mcus l.blocks)
      ≡ prefixed_bytes l.bytes.items (intervals_bytes l.slots (λ n. l.pad) l.number (intervals_after l.interval l.done (mcus_in (length l.slots) (l.mcus - l.done) l.rest)));
  long : length l.rest ≡ (l.mcus - l.done) * length l.slots;
  within : l.done ≤ l.mcus;
  few : l.number ≤ l.done;
  turn : l.done < l.mcus → l.done ≡ l.number * l.interval;
}

abbrev pub decreases-intervals : goal.decreases-intervals
decreases-intervals l = l.mcus - l.done
