-- Statement: the pad bits of a scan's restart intervals as they are given to a writer, and what they come to
-- (docs/FORMAT.md, Pad bits).
use Rattle.std.specs.Prelude.{ℕ, zero, suc, ◌+◌, ◌-◌, ◌*◌, ◌/◌, ◌<◌, Bool, true, false, not, ◌&&◌, if◌then◌else◌, List, [], ◌∷◌, length, get_or, ◌==◌, Ok, Err}
use Rattle.bit_list.specs.Bits.{bits_of, bytes_after, begun_after}
use Rattle.handover.specs.PadSums.{no_pads, pads_with}
use Rattle.handover.specs.declared.pads.PadSum.{PadSum}
use Rattle.scan_spec.specs.BlockBits.{Text}
use Rattle.scan_spec.specs.Blocks.{blocks_text}
use Rattle.scan_spec.specs.Scans.{Mcu, padded}
use Rattle.scan_spec.specs.Slots.{Shape}
use Rattle.scan_spec.specs.Spots.{Spot, is_closed, interval_number}
use Rattle.scan_spec.specs.declared.pads.Pads.{Pads}
use Rattle.scan_spec.specs.declared.pads.Pads.TheVariants as given

-- one bit for all intervals, or a list of bytes whose bits, the highest of a byte first, are those of the intervals in
-- their order
pub data PadBits : Type 0 where
  Same : Bool → PadBits
  Listed : List ℕ → PadBits

-- those that are given
abbrev pub pads_given : Pads → PadBits
pads_given (given.All bit) = Same bit
pads_given (given.Each bytes) = Listed bytes.now

-- the bit of interval n; 1 after the end of a list
abbrev pub bit_for : PadBits → ℕ → Bool
bit_for (Same bit) n = bit
bit_for (Listed bytes) n = get_or (bits_of bytes) n true

-- there is a bit for interval n
abbrev pub HasBit : PadBits → ℕ → Type 0
HasBit (Same bit) n = Unit {0}
HasBit (Listed bytes) n = n < 8 * length bytes

-- how many restart intervals there are, one if there are no restarts
abbrev pub interval_count : Shape → ℕ
interval_count shape = interval_number shape (shape.mcus - 1) + 1

-- the bytes of a list with a bit for each interval
abbrev pub list_room : Shape → ℕ
list_room shape = (interval_count shape + 7) / 8

-- whether a list has these
abbrev pub is_long_for : Shape → PadBits → Bool
is_long_for shape (Same bit) = true
is_long_for shape (Listed bytes) = length bytes == list_room shape

-- the list of pad bits, with bits of 0 after the last
abbrev pub pad_list : List Bool → List ℕ
pad_list pads = bytes_after [] (padded pads false)

-- whether there is a list
abbrev pub is_listed : PadBits → Bool
is_listed (Same bit) = false
is_listed (Listed bytes) = true

-- what interval n comes to: the bit that it pads, or, if it pads `none`, whether it has a 0 in a list
abbrev pub interval_sum : PadBits → ℕ → Bool → PadSum
interval_sum pads n none =
    if none then record no_pads { vain = is_listed pads && not (bit_for pads n) }
    else record { zero = not (bit_for pads n); one = bit_for pads n; vain = false }

-- what intervals from n on come to, by how many bits each pads
abbrev pub intervals_sum : PadBits → ℕ → List ℕ → PadSum
intervals_sum pads n [] = no_pads
intervals_sum pads n (zero ∷ counts) =
    pads_with (interval_sum pads n true) (intervals_sum pads (n + 1) counts)
intervals_sum pads n (suc count ∷ counts) =
    pads_with (interval_sum pads n false) (intervals_sum pads (n + 1) counts)

-- what bits come to that pad intervals, by how many bits each of these pads
abbrev pub bits_sum : List ℕ → List Bool → PadSum
bits_sum [] pads = no_pads
bits_sum (count ∷ counts) [] = no_pads
bits_sum (zero ∷ counts) (pad ∷ pads) = bits_sum counts pads
bits_sum (suc count ∷ counts) (pad ∷ pads) =
    pads_with (interval_sum (Same pad) 0 false) (bits_sum counts pads)

-- how pad bits with this list are said, by what they come to: as the list if two intervals pad with different bits,
-- else as the one bit, which is 1 if no bit of 0 is padded
abbrev pub told_by : List ℕ → PadSum → PadBits
told_by list sum = if sum.zero && sum.one then Listed list else Same (not sum.zero)

-- how the pad bits of a file are said
abbrev pub spelling_of : List Bool → PadSum → PadBits
spelling_of pads sum = told_by (pad_list pads) sum

-- whether what was padded is said so: a bit of 0 was padded with, both bits of a list were, and no 0 of it is in vain
abbrev pub is_spelled : PadBits → PadSum → Bool
is_spelled (Same true) sum = true
is_spelled (Same false) sum = sum.zero
is_spelled (Listed bytes) sum = sum.zero && (sum.one && not sum.vain)

-- what the pad bits after an MCU's text come to, if it ends an interval (F.1.2.3)
abbrev pub text_sum : Shape → PadBits → Spot → Text → PadSum
text_sum shape pads spot (Ok bits) =
    if is_closed shape (spot.count + 1)
    then interval_sum pads (interval_number shape spot.count)
    (length (begun_after spot.begun bits) == 0)
    else no_pads
text_sum shape pads spot (Err stop) = no_pads

-- and what those before come to with it
abbrev pub padded_after : Shape → PadBits → Spot → Mcu → PadSum → PadSum
padded_after shape pads spot mcu padded =
    pads_with padded (text_sum shape pads spot (blocks_text shape.slots spot.before mcu))
