use Rattle.std.proofs.Common.{◌-◌, ◌≡◌, ◌≤◌, ◌<◌, List, ℤ, false, Result}
use Rattle.bit_list.specs.Units.{Cursor}
use Rattle.scan_spec.specs.declared.refusal.ScanRefusal.{ScanRefusal as Refusal}
use Rattle.scan_decode.specs.SkipWords.{IsSkipped}
use Rattle.scan_decode.proofs.skip_symbols.by_symbols.Given as goal

abbrev pub invariant-loop-at : goal.invariant-loop-at
invariant-loop-at l = record {
  some : l.fn.index < l.at.index;
  within : l.at.index ≤ 64;
  bytes : l.input.bytes ≡ l.fn.input.bytes;
  going : (whole : Result (List ℤ × Cursor) Refusal) → IsSkipped whole l.codes l.fn.input.bytes l.fn.index false l.fn.input.cursor
      → IsSkipped whole l.codes l.fn.input.bytes l.at.index l.at.loose l.input.cursor;
}

abbrev pub decreases-loop-at : goal.decreases-loop-at
decreases-loop-at l = 64 - l.at.index
