-- View: a reader's fields as a reader of the definitions, and what always holds of them (own).
use Rattle.std.specs.Prelude.{◌≡◌, ◌^◌, ◌<◌, ◌≤◌, map}
use Rattle.std.specs.List.{All}
use Rattle.coef_block.specs.Block.{IsDc}
use Rattle.scan_spec.specs.ScanCalls.{ScanReader}
use Rattle.scan_decode.specs.ReadWords.{AreReadSlots}
use Rattle.scan_decode.specs.SkipWords.{AreSkipSlots}
use Rattle.scan_decode.specs.declared.reader.Reader.TheInside.{Inside}

-- the scan, its bytes, where the reader is in them, and its refusal
abbrev pub reader_of : Inside → ScanReader
reader_of r = record {
  shape = r.shape;
  bytes = r.input.bytes;
  at = record { cursor = r.input.cursor; before = r.before; count = r.count; pad = r.pad };
  stop = r.stop;
}

-- the last DCs are some that blocks can have, no more MCUs were read than there are, the bits are those of the bytes,
-- and what ten bits read and twelve bits skip is by the tables of the scan
pub record IsReader (r : Inside) : Type 0 where
  pub before : All IsDc r.before
  pub count : r.count ≤ r.shape.mcus
  pub size : r.shape.mcus < 2 ^ 32
  pub bytes : r.input.bytes ≡ r.bytes.now
  pub skips : AreSkipSlots r.shape.slots (map (λ v. v.items) r.skips.items)
  pub reads : AreReadSlots r.shape.slots (map (λ v. v.items) r.reads.items)
