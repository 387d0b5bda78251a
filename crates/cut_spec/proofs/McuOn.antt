-- An MCU that is read is put from the spot before it: the writer is where the reader stands then.
use Rattle.std.proofs.Common.{◌≡◌, ℕ, ◌+◌, ◌≤◌, Bool, true, false, ◌==◌, List, [], ◌++◌, length, map, replicate, ℤ, Option, Ok, refl, sym, ap, ap₂, ◌∙◌, subst, arith, append-nil, length-append}
use Rattle.bit_list.specs.Bits.{bytes_after, begun_after, stuffed}
use Rattle.bit_list.specs.Units.{Cursor, starting}
use Rattle.bit_list.proofs.Cursors.{bits_left}
use Rattle.scan_spec.specs.BlockBits.{Text, in_zigzag}
use Rattle.scan_spec.specs.Blocks.{blocks_text, dcs_after}
use Rattle.scan_spec.specs.Slots.{Shape}
use Rattle.scan_spec.specs.Scans.{Mcu, restart_marker, ends_interval, IsMcu}
use Rattle.scan_spec.specs.Spots.{Spot, interval_number, put_text, mcu_put}
use Rattle.scan_spec.specs.ScanReading.{BlocksRead, Standing, mcu_at}
use Rattle.scan_spec.specs.ScanLaws.{IsShape}
use Rattle.scan_spec.proofs.BitsTaken.{Takes, takes_then, is_fine}
use Rattle.scan_spec.proofs.BlocksTaken.{blocks_read}
use Rattle.scan_spec.proofs.Intervals.{Agrees}
use Rattle.scan_spec.proofs.McuByMcu.{closing, put_by}
use Rattle.scan_spec.proofs.ScanTaken.{on_standing, end_by, end_taken, marker_taken, mcu_fine, zigzags_tell}
use Rattle.cut_spec.proofs.UnitsBegun.{AreBytes, IsBegun, bits_begun}
use Rattle.cut_spec.proofs.BegunHandedOver.{pads_are_left}
use Rattle.cut_spec.proofs.BitsOn.{bits_on}

-- a writer's spot is what a reader stands at; the bytes that aren't complete begin at a place
pub record IsOn (bytes : List ℕ) (place : ℕ) (spot : Spot) (at : Standing) : Type 0 where
  pub begun : IsBegun bytes place spot.begun at.cursor
  pub before : spot.before ≡ at.before
  pub count : spot.count ≡ at.count

abbrev no_left : Cursor → Cursor
no_left cursor = record cursor { left = [] }

-- ---- the end of an interval

left_taken : (bytes : List ℕ) (cursor : Cursor) → Takes bytes cursor cursor.left (no_left cursor)
left_taken bytes cursor =
    subst
    (λ (l : List Bool). Takes bytes (record cursor { left = l }) cursor.left (no_left cursor))
    (append-nil cursor.left)
    (bits_left cursor.left [] bytes cursor.skip cursor.last cursor.next)

closed_on : (bytes : List ℕ) (place after k : ℕ) (begun bits : List Bool) (pad : Bool)
    (cursor to : Cursor) → AreBytes bytes place after → IsBegun bytes place begun cursor
    → Takes bytes cursor bits to
    → to.next ≤ after → to.left ≡ replicate k pad
    → to.next ≡ place + length (closing begun bits pad)
closed_on bytes place after k begun bits pad cursor to are at takes within left =
    let pads = pads_are_left bytes (place + length (stuffed (bytes_after begun bits))) k
    (begun_after begun bits) to pad
    (bits_begun bits bytes place after begun cursor to are at takes within) left in
    let all = bits_begun (bits ++ to.left) bytes place after begun cursor (no_left to) are at
    (takes_then bytes cursor to (no_left to) bits to.left takes (left_taken bytes to)) within in
    all.unit.1 ∙ ap (λ (l : List Bool). place + length (stuffed (bytes_after begun (bits ++ l))))
    pads

-- ---- one MCU

abbrev PutOn : List ℕ → ℕ → Standing → List ℕ × Spot → Type 0
PutOn bytes place next put = IsOn bytes (place + length put.0) put.1 next

put_on : (over ends : Bool) (shape : Shape) (bytes : List ℕ) (place after : ℕ) (spot : Spot)
    (s next : Standing) (read : BlocksRead) (bits : List Bool) (pads : ℕ → Bool)
    → AreBytes bytes place after → IsOn bytes place spot s → Takes bytes s.cursor bits read.cursor
    → end_by over ends shape bytes s read ≡ Ok next → next.cursor.next ≤ after
    → Agrees next.pad (pads (interval_number shape spot.count))
    → PutOn bytes place next (put_by over ends shape pads spot read.before bits)
put_on true ends shape bytes place after spot s next read bits pads are on takes e within a =
    let pad = pads (interval_number shape spot.count) in
    let t = end_taken ends shape bytes s next read pad e a in
    let stop = t.next in
    let begun = on.begun in
    let text = closing spot.begun bits pad in
    let here = closed_on bytes place after t.pads.k spot.begun bits pad s.cursor read.cursor are
    begun takes (omega (arith, within, stop)) t.pads.left in
    let same : text ≡ text ++ [] = sym (append-nil text) in
    let last : IsBegun bytes (place + length (text ++ [])) [] (no_left read.cursor) =
    record {
      skip = (bits_on bits bytes s.cursor read.cursor begun.skip takes).0;
      unit =
          (refl, here ∙ ap (λ (l : List ℕ). place + length l) same);
    } in
    let is = t.is in
    record {
      begun = subst (λ (c : Cursor). IsBegun bytes (place + length (text ++ [])) [] c)
          (sym (ap (λ (g : Standing). g.cursor) is)) last;
      before = sym (ap (λ (g : Standing). g.before) is);
      count = ap (λ (n : ℕ). n + 1) on.count ∙ sym (ap (λ (g : Standing). g.count) is);
    }
put_on false true shape bytes place after spot s next read bits pads are on takes e within a =
    let pad = pads (interval_number shape spot.count) in
    let t = marker_taken shape bytes s next read e in
    let is = t.is in
    let taken =
    t.pads pad
    (subst (λ (o : Option Bool). Agrees o pad) (ap (λ (g : Standing). g.pad) is) a) in
    let stop = t.place_is in
    let at = ap (λ (g : Standing). g.cursor.next) is in
    let text = closing spot.begun bits pad in
    let marker = restart_marker (interval_number shape spot.count) in
    let here = closed_on bytes place after taken.k spot.begun bits pad s.cursor read.cursor are
    on.begun takes (omega (arith, within, stop, at)) taken.left in
    let long : length (text ++ marker) ≡ length text + 2 = length-append text marker in
    let last : IsBegun bytes (place + length (text ++ marker)) [] (starting t.place 0) =
    record { skip = refl; unit = (refl, omega (arith, here, stop, long)) } in
    record {
      begun = subst (λ (c : Cursor). IsBegun bytes (place + length (text ++ marker)) [] c)
          (sym (ap (λ (g : Standing). g.cursor) is)) last;
      before = sym (ap (λ (g : Standing). g.before) is);
      count = ap (λ (n : ℕ). n + 1) on.count ∙ sym (ap (λ (g : Standing). g.count) is);
    }
put_on false false shape bytes place after spot s next read bits pads are on takes e within a =
    let is = is_fine (on_standing read.cursor read.before s.count) next e in
    let at = ap (λ (g : Standing). g.cursor.next) is in
    let b = bits_begun bits bytes place after spot.begun s.cursor read.cursor are on.begun takes
    (omega (arith, within, at)) in
    record {
      begun =
          subst
          (λ (c : Cursor). IsBegun bytes (place + length (stuffed (bytes_after spot.begun bits)))
          (begun_after spot.begun bits) c) (ap (λ (g : Standing). g.cursor) is) b;
      before = ap (λ (g : Standing). g.before) is;
      count = ap (λ (n : ℕ). n + 1) on.count ∙ ap (λ (g : Standing). g.count) is;
    }

count_put : (over ends : Bool) (shape : Shape) (pads : ℕ → Bool) (spot : Spot) (before : List ℤ)
    (bits : List Bool) → (put_by over ends shape pads spot before bits).1.count ≡ spot.count + 1
count_put true ends shape pads spot before bits = refl
count_put false true shape pads spot before bits = refl
count_put false false shape pads spot before bits = refl

-- what an MCU puts
pub record McuPut (shape : Shape) (bytes : List ℕ) (pads : ℕ → Bool) (place : ℕ) (spot : Spot)
    (mcu : Mcu) (next : Standing) : Type 0 where
  pub text : List ℕ
  pub after : Spot
  pub is : mcu_put shape pads spot mcu ≡ Ok (text, after)
  pub on : IsOn bytes (place + length text) after next
  pub count : after.count ≡ spot.count + 1

pub mcu_on : (shape : Shape) (bytes : List ℕ) (place after : ℕ) (spot : Spot) (s next : Standing)
    (mcu : Mcu) (pads : ℕ → Bool) → IsShape shape → IsMcu shape.slots mcu → AreBytes bytes place after
    → IsOn bytes place spot s
    → mcu_at shape bytes s ≡ Ok (map in_zigzag mcu, next) → next.cursor.next ≤ after
    → Agrees next.pad (pads (interval_number shape spot.count))
    → McuPut shape bytes pads place spot mcu next
unfolding mcu_put
mcu_on shape bytes place after spot s next mcu pads is fits are on e within a =
    let one = mcu_fine shape bytes s (map in_zigzag mcu, next) e in
    let read = one.read in
    let m = blocks_read shape.slots s.before bytes s.cursor read is.slots one.is in
    let same : m.mcu ≡ mcu = zigzags_tell m.mcu mcu m.each fits.1 (sym m.same ∙ sym one.same) in
    let last : dcs_after shape.slots spot.before mcu ≡ read.before =
    ap₂ (λ (d : List ℤ) (b : Mcu). dcs_after shape.slots d b) on.before (sym same)
    ∙ sym m.last in
    let text : blocks_text shape.slots spot.before mcu ≡ Ok m.bits =
    ap₂ (λ (d : List ℤ) (b : Mcu). blocks_text shape.slots d b) on.before (sym same) ∙ m.text in
    let over = spot.count + 1 == shape.mcus in
    let ends = ends_interval shape.interval (spot.count + 1) in
    let put = put_by over ends shape pads spot read.before m.bits in
    record {
      text = put.0;
      after = put.1;
      is = ap₂ (λ (d : List ℤ) (t : Text). put_text shape pads spot d t) last text;
      on = put_on over ends shape bytes place after spot s next read m.bits pads are on m.takes
          (ap
          (λ (n : ℕ). end_by (n + 1 == shape.mcus) (ends_interval shape.interval (n + 1)) shape
          bytes s read) on.count ∙ one.after) within a;
      count = count_put over ends shape pads spot read.before m.bits;
    }
