-- Statement: the bytes of a scan, restart intervals with markers between them (ITU-T T.81, A.2, B.1.1.5, B.2.1,
-- E.1.4, F.1.2.3).
use Rattle.std.specs.Prelude.{ℕ, ◌≡◌, ◌+◌, ◌%◌, Bool, true, not, ◌&&◌, ◌==◌, if◌then◌else◌, List, [], ◌∷◌, ◌++◌, length, map, get_or, replicate, flat_map, ℤ, pos, Result, Ok, Err}
use Rattle.std.specs.List.{AllByRecursion, onto_first}
use Rattle.bit_list.specs.Bits.{bytes_after, begun_after, padding, stuffed}
use Rattle.coef_block.specs.Block.{IsBlock}
use Rattle.scan_spec.specs.BlockBits.{Text}
use Rattle.scan_spec.specs.Blocks.{blocks_text}
use Rattle.scan_spec.specs.Slots.{Shape}
use Rattle.scan_spec.specs.declared.slot.Slot.{Slot}
use Rattle.scan_spec.specs.declared.stop.WriteStop.{WriteStop}

-- the blocks of an MCU in their order, each by its coefficients (A.2.3)
abbrev pub Mcu : Type 0
Mcu = List (List ℤ)

-- the DCs before the first blocks of an interval, by the component's index in the frame (F.1.1.5.1)
abbrev pub no_dcs : List ℤ
no_dcs = replicate 4 (pos 0)

-- the bits of an interval's MCUs (A.2, F.1.1.5.1)
unfoldable pub mcus_bits : List Slot → List Mcu → Text
mcus_bits slots mcus =
    blocks_text (flat_map (λ mcu. slots) mcus) no_dcs (flat_map (λ mcu. mcu) mcus)

-- bits and then pad bits, up to a whole byte (F.1.2.3; a pad bit of 0: own)
abbrev pub padded : List Bool → Bool → List Bool
padded bits pad = bits ++ padding (begun_after [] bits) pad

-- the bytes of an interval's bits (B.1.1.5, F.1.2.3)
abbrev pub interval_bytes : Bool → List Bool → List ℕ
interval_bytes pad bits = stuffed (bytes_after [] (padded bits pad))

-- RSTm: m runs from 0 to 7 and round again (B.2.1, E.1.4)
abbrev pub restart_marker : ℕ → List ℕ
restart_marker n = 0xff ∷ (0xd0 + n % 8) ∷ []

-- whether a restart interval ends after this many MCUs, 1 at least (B.2.4.4)
abbrev pub ends_interval : ℕ → ℕ → Bool
ends_interval interval count = not (interval == 0) && count % interval == 0

-- MCUs in restart intervals, `before` being how many MCUs are before (B.2.4.4)
abbrev pub intervals_after : ℕ → ℕ → List Mcu → List (List Mcu)
intervals_after interval before [] = []
intervals_after interval before (mcu ∷ mcus) =
    if ends_interval interval (before + 1)
    then (mcu ∷ []) ∷ intervals_after interval (before + 1) mcus
    else onto_first mcu (intervals_after interval (before + 1) mcus)

-- all MCUs of a scan in restart intervals (B.2.4.4)
abbrev pub intervals_of : Shape → List Mcu → List (List Mcu)
intervals_of shape mcus = intervals_after shape.interval 0 mcus

-- bytes, or the first cause in writing order why there are none (own)
abbrev pub Bytes : Type 0
Bytes = Result (List ℕ) WriteStop

-- bytes of bits
abbrev pub bytes_of : (List Bool → List ℕ) → Text → Bytes
bytes_of bytes (Ok bits) = Ok (bytes bits)
bytes_of bytes (Err stop) = Err stop

-- bytes with others before them
abbrev pub prefixed_bytes : List ℕ → Bytes → Bytes
prefixed_bytes prefix (Ok bytes) = Ok (prefix ++ bytes)
prefixed_bytes prefix (Err stop) = Err stop

-- bytes and then others
abbrev pub then_bytes : Bytes → Bytes → Bytes
then_bytes (Ok prefix) bytes = prefixed_bytes prefix bytes
then_bytes (Err stop) bytes = Err stop

-- intervals by their numbers, each with its pad bit, and after each but the last one its marker (B.2.1, E.1.4)
unfoldable pub intervals_bytes : List Slot → (ℕ → Bool) → ℕ → List (List Mcu) → Bytes
intervals_bytes slots pads n [] = Ok []
intervals_bytes slots pads n (mcus ∷ []) = bytes_of (interval_bytes (pads n)) (mcus_bits slots mcus)
intervals_bytes slots pads n (mcus ∷ next ∷ more) =
    then_bytes (bytes_of (λ bits. interval_bytes (pads n) bits
    ++ restart_marker n) (mcus_bits slots mcus)) (intervals_bytes slots pads (n + 1) (next ∷ more))

-- the bytes of a scan with these MCUs, and a pad bit for each interval
unfoldable pub scan_bytes : Shape → (ℕ → Bool) → List Mcu → Bytes
scan_bytes shape pads mcus = intervals_bytes shape.slots pads 0 (intervals_of shape mcus)

-- as many blocks as an MCU has, each within its ranges
abbrev pub IsMcu : List Slot → Mcu → Type 0
IsMcu slots mcu = (length mcu ≡ length slots) × AllByRecursion IsBlock mcu

-- as many MCUs as the grid has
pub record AreMcus (shape : Shape) (mcus : List Mcu) : Type 0 where
  pub count : length mcus ≡ shape.mcus
  pub each : AllByRecursion (IsMcu shape.slots) mcus

-- how many pad bits follow an interval's bits (own)
abbrev pub pad_bits_of : Text → ℕ
pad_bits_of (Ok bits) = length (padding (begun_after [] bits) true)
pad_bits_of (Err stop) = 0

-- and the bits of each of some intervals (own)
abbrev pub pad_counts : List Slot → List (List Mcu) → List ℕ
pad_counts slots intervals = map (λ interval. pad_bits_of (mcus_bits slots interval)) intervals

-- a pad bit for each interval, by how many bits of each it fills up: 1 if there are none (own)
abbrev pub ArePads : List ℕ → List Bool → Type 0
ArePads [] [] = Unit {0}
ArePads [] (pad ∷ pads) = ⊥
ArePads (count ∷ counts) [] = ⊥
ArePads (count ∷ counts) (pad ∷ pads) = (count ≡ 0 → pad ≡ true) × ArePads counts pads

-- the pad bit of interval n, by the list of them; 1 after its end (own)
abbrev pub pad_at : List Bool → ℕ → Bool
pad_at pads n = get_or pads n true

-- MCUs and a pad bit for each restart interval, which is 1 if the interval pads none, as a scan of these bytes (own)
pub record IsScan (shape : Shape) (mcus : List Mcu) (pads : List Bool)
    (scan : List ℕ) : Type 0 where
  pub grid : AreMcus shape mcus
  pub told : ArePads (pad_counts shape.slots (intervals_of shape mcus)) pads
  pub text : scan_bytes shape (pad_at pads) mcus ≡ Ok scan
