-- Steps: a reader and a writer of a scan that start from a handover, and what a reader hands over (own).
use Rattle.std.specs.Prelude.{ℕ, ◌-◌, ◌==◌, if◌then◌else◌, Bool, List, [], length, take, get_or, None, Result, Ok, Err}
use Rattle.bit_list.specs.Bits.{low_bits}
use Rattle.bit_list.specs.Units.{Cursor, starting, bits_at}
use Rattle.bit_list.specs.declared.fault.BitFault.{BitFault}
use Rattle.scan_spec.specs.Slots.{Shape}
use Rattle.scan_spec.specs.Spots.{Spot}
use Rattle.scan_spec.specs.Pads.{PadBits}
use Rattle.scan_spec.specs.ScanReading.{Standing}
use Rattle.scan_spec.specs.ScanCalls.{ScanReader, ScanWriter}
use Rattle.handover.specs.Handovers.{HandoverFields}
use Rattle.handover.specs.PadSums.{no_pads}
use Rattle.cut_spec.specs.RowHandovers.{spot_of}

-- the cursor after bits, or another one if they aren't there
abbrev pub cursor_or : Cursor → Result (List Bool × Cursor) BitFault → Cursor
cursor_or other (Ok taken) = taken.1
cursor_or other (Err fault) = other

-- within the unit at a place, after its first bits; before the unit, with these left out, if none is there (own)
abbrev pub cursor_from : List ℕ → ℕ → ℕ → Cursor
cursor_from bytes place bits =
    cursor_or (starting place bits) (bits_at bits bytes (starting place 0))

-- a standing at a handover after `count` MCUs (own): the bits of the byte begun are read from the unit at the place,
-- and no pad bit was read
abbrev pub standing_from : List ℕ → HandoverFields → ℕ → ℕ → Standing
standing_from bytes h count place = record {
  cursor = cursor_from bytes place h.bits;
  before = h.preds;
  count = count;
  pad = None;
}

-- a reader that starts from a handover (own)
abbrev pub reader_from : Shape → List ℕ → HandoverFields → ℕ → ℕ → ScanReader
reader_from shape bytes h count place = record {
  shape = shape;
  bytes = bytes;
  at = standing_from bytes h count place;
  stop = None;
}

-- a writer that starts from a handover (own)
abbrev pub writer_from : Shape → PadBits → HandoverFields → ℕ → ScanWriter
writer_from shape pads h count = record {
  shape = shape;
  pads = pads;
  spot = spot_of h count;
  padded = no_pads;
  stop = None;
}

-- the bits that were read of a unit begun (own)
abbrev pub begun_in : List ℕ → Cursor → List Bool
begun_in bytes cursor =
    if length cursor.left == 0 then []
    else take (8 - length cursor.left) (low_bits 8 (get_or bytes cursor.last 0))

-- the spot of a writer of what was read (own)
abbrev pub spot_in : List ℕ → Standing → Spot
spot_in bytes at =
    record { begun = begun_in bytes at.cursor; before = at.before; count = at.count }
