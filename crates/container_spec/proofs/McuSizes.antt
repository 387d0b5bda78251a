-- How many bytes an MCU, and the first MCUs of a scan, can have.
use Rattle.std.proofs.Common.{◌≡◌, ℕ, ◌+◌, ◌*◌, ◌<◌, ◌≤◌, Bool, true, false, if◌then◌else◌, List, [], ◌∷◌, ◌++◌, length, take, Ok, Err, refl, ap, subst, arith, ℤ, length-append}
use Rattle.std.specs.Prelude.{◌==◌}
use Rattle.std.specs.List.{AllByRecursion}
use Rattle.std.proofs.lemmas.List.{length-replicate, length-take}
use Rattle.bit_list.specs.Bits.{bytes_after, begun_after, padding, stuffed}
use Rattle.scan_spec.specs.BlockBits.{Text}
use Rattle.scan_spec.specs.Blocks.{blocks_text, dcs_after}
use Rattle.scan_spec.specs.Scans.{Mcu, IsMcu, AreMcus, scan_bytes}
use Rattle.scan_spec.specs.ScanLaws.{IsShape}
use Rattle.scan_spec.specs.ShapeInside.{most_slots}
use Rattle.scan_spec.specs.Slots.{Shape}
use Rattle.scan_spec.specs.Spots.{Spot, first_spot, is_closed, interval_number, marker_after, put_bits, put_text, mcu_put, mcus_put, count_in, bytes_done, spot_at}
use Rattle.scan_spec.specs.TextBounds.{block_bits, mcu_room}
use Rattle.scan_spec.proofs.DoneBytes.{done_in_parts}
use Rattle.scan_spec.proofs.Short.{short}
use Rattle.scan_spec.proofs.SpentBits.{begun_few, bits_spent}
use Rattle.container_spec.proofs.PutParts.{bytes_in, put_parts}
use Rattle.box_format.proofs.ByteParts.{all_take}

-- what holds of both holds of the one that a test takes
pub either : {A : Type 0} (P : A → Type 0) (t : Bool) (a b : A) → P a → P b
    → P (if t then a else b)
either P true a b h k = h
either P false a b h k = k

-- a scan whose MCUs have at most ten blocks
pub record IsSmall (shape : Shape) : Type 0 where
  pub is : IsShape shape
  pub few : length shape.slots ≤ most_slots

-- the most bits of an MCU
abbrev mcu_bits : ℕ
mcu_bits = most_slots * block_bits

-- bytes that the room for an MCU holds, and a spot with less than a byte begun
abbrev pub Fits : List ℕ × Spot → Type 0
Fits made = (length made.0 ≤ mcu_room) × (length made.1.begun < 8)

-- a marker has two bytes
marker_few : (shape : Shape) (count : ℕ) → length (marker_after shape count) ≤ 2
marker_few shape count =
    either (λ (bytes : List ℕ). length bytes ≤ 2) (count + 1 == shape.mcus) [] _
    (omega arith) (omega arith)

-- fewer than eight bits are padded
padding_few : (begun : List Bool) (bit : Bool) → length (padding begun bit) < 8
padding_few begun bit = simp length-replicate (omega arith)

-- four bits at least are spent for each byte, with the zeros that are stuffed
stuffed_few : (begun bits : List Bool) → length begun < 8
    → 4 * length (stuffed (bytes_after begun bits)) ≤ length begun + length bits
stuffed_few begun bits few = let spent = bits_spent begun bits [] few in omega (arith, spent)

-- so the bits of an MCU fit, also with pad bits and a marker
bits_fit : (shape : Shape) (pads : ℕ → Bool) (spot : Spot) (before : List ℤ) (bits : List Bool)
    → length bits ≤ mcu_bits → length spot.begun < 8
    → Fits (put_bits shape pads spot before bits)
bits_fit shape pads spot before bits few begun =
    let rest = begun_after spot.begun bits in
    let bit = pads (interval_number shape spot.count) in
    let whole = bits ++ padding rest bit in
    let marker = marker_after shape spot.count in
    let seven = padding_few rest bit in
    let long = length-append bits (padding rest bit) in
    let most = stuffed_few spot.begun whole begun in
    let two = marker_few shape spot.count in
    let all = length-append (stuffed (bytes_after spot.begun whole)) marker in
    let fewer = stuffed_few spot.begun bits begun in
    either Fits (is_closed shape (spot.count + 1)) _ _
    (omega (arith, few, begun, seven, long, most, two, all), omega arith)
    (omega (arith, few, begun, fewer), begun_few spot.begun bits begun)

text_fits : (shape : Shape) (pads : ℕ → Bool) (spot : Spot) (before : List ℤ) (text : Text)
    (made : List ℕ × Spot) → ((bits : List Bool) → text ≡ Ok bits → length bits ≤ mcu_bits)
    → length spot.begun < 8 → put_text shape pads spot before text ≡ Ok made → Fits made
text_fits shape pads spot before (Ok bits) made few begun put =
    let same : put_bits shape pads spot before bits ≡ made = cc in
    subst Fits same (bits_fit shape pads spot before bits (few bits refl) begun)
text_fits shape pads spot before (Err stop) made few begun put =
    absurd (let f : Err stop ≡ Ok made = put in cc)

-- an MCU fits, whatever its blocks
pub mcu_fits : (shape : Shape) (pads : ℕ → Bool) (spot : Spot) (mcu : Mcu) (made : List ℕ × Spot)
    → IsSmall shape → IsMcu shape.slots mcu → length spot.begun < 8
    → mcu_put shape pads spot mcu ≡ Ok made → Fits made
unfolding mcu_put
mcu_fits shape pads spot mcu made small is begun put =
    text_fits shape pads spot (dcs_after shape.slots spot.before mcu)
    (blocks_text shape.slots spot.before mcu) made
    (λ bits text.
    let most = short shape.slots spot.before mcu bits small.is.slots is.1 text in
    let ten = small.few in omega (arith, most, is.0, ten)) begun put

-- ---- MCUs, one after another

-- they have no more bytes than there is room for each
mcus_fit : (mcus : List Mcu) (shape : Shape) (pads : ℕ → Bool) (spot end : Spot) (bytes : List ℕ)
    → IsSmall shape → AllByRecursion (IsMcu shape.slots) mcus → length spot.begun < 8
    → mcus_put shape pads spot mcus ≡ Ok (bytes, end) → length bytes ≤ mcu_room * length mcus
unfolding mcus_put
mcus_fit [] shape pads spot end bytes small each begun put =
    let none = ap length (ap bytes_in put) in omega (arith, none)
mcus_fit (mcu ∷ mcus) shape pads spot end bytes small each begun put =
    let p =
    put_parts (mcu_put shape pads spot mcu) (λ next. mcus_put shape pads next mcus) bytes end put in
    let first = mcu_fits shape pads spot mcu (p.before, p.at) small each.0 begun p.first in
    let rest = mcus_fit mcus shape pads p.at end p.more small each.1 first.1 p.then in
    let all = length-append p.before p.more in
    let long = ap length p.joined in
    omega (arith, first.0, rest, all, long)

-- the first MCUs of a scan complete no more bytes than there is room for all its MCUs
pub done_few : (shape : Shape) (pads : ℕ → Bool) (mcus : List Mcu) (scan : List ℕ) (n : ℕ)
    → IsSmall shape → AreMcus shape mcus → scan_bytes shape pads mcus ≡ Ok scan
    → bytes_done shape pads mcus n ≤ mcu_room * shape.mcus
done_few shape pads mcus scan n small are text =
    let put = (done_in_parts shape pads mcus scan n small.is are text).0 in
    let long = ap count_in put in
    let bytes = take (bytes_done shape pads mcus n) scan in
    let most = mcus_fit (take n mcus) shape pads first_spot (spot_at shape pads mcus n) bytes small
    (all_take (IsMcu shape.slots) n mcus are.each) (omega arith) put in
    let few = length-take n mcus in
    let all = are.count in
    omega (arith, long, most, few, all)
