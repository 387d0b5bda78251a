-- View: a writer's fields as a writer of the definitions, what always holds of them, and what they are after an MCU
-- (own).
use Rattle.std.specs.Prelude.{ℕ, ◌≡◌, ◌^◌, ◌<◌, ◌≤◌, true, List, ◌++◌, Result, Ok, Err}
use Rattle.std.specs.List.{All}
use Rattle.coef_block.specs.Block.{IsDc}
use Rattle.scan_spec.specs.Scans.{Mcu}
use Rattle.scan_spec.specs.Pads.{pads_given, bit_for, is_long_for}
use Rattle.scan_spec.specs.ScanCalls.{ScanWriter, McuIsPutOn}
use Rattle.scan_spec.specs.Spots.{mcu_put}
use Rattle.scan_spec.specs.declared.stop.WriteStop.{WriteStop}
use Rattle.scan_write.specs.Outputs.{IsBegun}
use Rattle.scan_write.specs.declared.writer.Writer.TheInside.{Inside}

-- the scan, its pad bits, the spot between two MCUs, what was padded, and the stop
abbrev pub writer_in : Inside → ScanWriter
writer_in w = record {
  shape = w.shape;
  pads = pads_given w.pads;
  spot = record { begun = w.output; before = w.before; count = w.count };
  padded = w.padded;
  stop = w.stop;
}

-- one byte at most is begun, the last DCs are DCs of blocks, no more MCUs were written than there are, and a list of
-- pad bits has one for each interval
pub record IsWriter (w : Inside) : Type 0 where
  pub begun : IsBegun w.output
  pub before : All IsDc w.before
  pub count : w.count ≤ w.shape.mcus
  pub size : w.shape.mcus < 2 ^ 32
  pub pads : is_long_for w.shape (pads_given w.pads) ≡ true

-- an MCU's bytes were appended, or some bytes, if it has a stop, and the writer is as before
abbrev pub McuIsTried : {A : Type 0} → ScanWriter → Mcu → List ℕ → Result A WriteStop → ScanWriter
    → List ℕ → Type 0
McuIsTried old mcu out (Ok done) new out_new = McuIsPutOn old mcu out (Ok done) new out_new
McuIsTried old mcu out (Err stop) new out_new =
    (bytes : List ℕ) × (mcu_put old.shape (bit_for old.pads) old.spot mcu ≡ Err stop)
    × (out_new ≡ out ++ bytes) × (new ≡ old)
