-- A drawn MCU has bytes, wherever it is put, and they are few.
use Rattle.std.proofs.Common.{◌≡◌, ℕ, zero, suc, ◌+◌, ◌-◌, ◌*◌, ◌/◌, ◌%◌, ◌^◌, ◌<◌, ◌≤◌, Bool, true, false, ◌==◌, if◌then◌else◌, List, [], ◌∷◌, ◌++◌, length, ℤ, unsigned_abs, Ok, refl, sym, ap, subst, ◌∙◌, arith, length-append}
use Rattle.std.specs.Prelude.{pos, slice_index_or, slice_set}
use Rattle.std.specs.List.{AllByRecursion}
use Rattle.std.proofs.lemmas.Bool.{eq-eqb, eqb-true, false≢true}
use Rattle.std.proofs.lemmas.List.{length-replicate}
use Rattle.std.proofs.Math.Nat.{mod-lt}
use Rattle.bit_list.specs.Bits.{IsByte, begun_after, bytes_after, number_of, padding, stuffed}
use Rattle.bit_list.proofs.LowBits.{number_below}
use Rattle.bit_list.proofs.Spanning.{few_stuffed}
use Rattle.bit_list.proofs.Wholes.{begun_count, bytes_count}
use Rattle.scan_spec.specs.BlockBits.{block_text, coefficient_at}
use Rattle.scan_spec.specs.Blocks.{blocks_text, dcs_after, dcs_after_block, last_dc}
use Rattle.scan_spec.specs.Scans.{Mcu, restart_marker}
use Rattle.scan_spec.specs.Slots.{Shape}
use Rattle.scan_spec.specs.Spots.{Spot, interval_number, is_closed, marker_after, mcu_put, put_bits, put_text}
use Rattle.scan_spec.specs.declared.slot.Slot.{Slot}
use Rattle.sample_jpeg.specs.DrawnMcus.{drawn_block, drawn_blocks}
use Rattle.sample_jpeg.specs.SampleWriting.{AreDrawnDcs, sample_slots}
use Rattle.sample_jpeg.proofs.DrawnBlocks.{IsDrawn, block_drawn, drawn_acs}
use Rattle.sample_jpeg.proofs.SampleTexts.{IsText, block_of_few, both, fewer, sample_codes}

-- what holds of both holds of the one that a test picks
either_holds : {A : Type 0} (P : A → Type 0) (t : Bool) (x y : A) → P x → P y → P (if t then x else y)
either_holds P true x y p q = p
either_holds P false x y p q = q

-- ---- last DCs

dc_of : (before : List ℤ) (i : ℕ) → AreDrawnDcs before → unsigned_abs (slice_index_or before i (pos 0)) ≤ 1000
dc_of [] i all = omega arith
dc_of (dc ∷ before) zero all = all.0
dc_of (dc ∷ before) (suc i) all = dc_of before i all.1

dcs_with : (before : List ℤ) (i : ℕ) (dc : ℤ) → unsigned_abs dc ≤ 1000 → AreDrawnDcs before → AreDrawnDcs (slice_set before i dc)
dcs_with [] i dc small all = tt
dcs_with (b ∷ before) zero dc small all = (small, all.1)
dcs_with (b ∷ before) (suc i) dc small all = (all.0, dcs_with before i dc small all.1)

-- ---- the blocks of an MCU

pub blocks_drawn : (n state : ℕ) → AllByRecursion IsDrawn (drawn_blocks n state).value
unfolding drawn_blocks
blocks_drawn zero state = tt
blocks_drawn (suc n) state = (block_drawn state, blocks_drawn n (drawn_block state).state)

pub length-drawn_blocks : (n state : ℕ) → length (drawn_blocks n state).value ≡ n
unfolding drawn_blocks
length-drawn_blocks zero state = refl
length-drawn_blocks (suc n) state = ap suc (length-drawn_blocks n (drawn_block state).state)

abbrev HaveSampleCodes : List Slot → Type 0
HaveSampleCodes slots = AllByRecursion (λ (slot : Slot). slot.codes ≡ sample_codes) slots

blocks_are : (slots : List Slot) (before : List ℤ) (blocks : List (List ℤ)) → HaveSampleCodes slots → AreDrawnDcs before → AllByRecursion IsDrawn blocks
    → IsText (779 * length slots) (blocks_text slots before blocks) × AreDrawnDcs (dcs_after slots before blocks)
unfolding blocks_text dcs_after
blocks_are [] before blocks codes dcs drawn = (([], refl, omega arith), dcs)
blocks_are (slot ∷ slots) before [] codes dcs drawn = (([], refl, omega arith), dcs)
blocks_are (slot ∷ slots) before (block ∷ blocks) codes dcs drawn =
    let last = last_dc before slot in
    let next = dcs_after_block before slot block in
    let rest = blocks_are slots next blocks codes.1 (dcs_with before slot.component (coefficient_at block 0) drawn.0.dc dcs) drawn.1 in
    let few = block_of_few last block (dc_of before slot.component dcs) drawn.0.dc (drawn_acs block drawn.0) in
    let first : IsText 779 (block_text slot.codes last block) = subst (λ c. IsText 779 (block_text c last block)) (sym codes.0) few in (
      fewer (779 + 779 * length slots) (779 * suc (length slots)) _ (omega arith) (both 779 (779 * length slots) (block_text slot.codes last block) (blocks_text slots next blocks) first rest.0),
      rest.1,
    )

-- ---- their bytes

abbrev pub AreBytes : List ℕ → Type 0
AreBytes bytes = AllByRecursion IsByte bytes

-- with a bit more, by whether it fills the byte
byte_filled : (t : Bool) (begun bits : List Bool) (bit : Bool) → (length begun == 7) ≡ t → length begun < 8 → AreBytes (bytes_after [] bits)
    → (length (begun ++ bit ∷ []) < 8 → AreBytes (bytes_after (begun ++ bit ∷ []) bits))
    → AreBytes (if t then number_of (begun ++ bit ∷ []) ∷ bytes_after [] bits else bytes_after (begun ++ bit ∷ []) bits)
byte_filled true begun bits bit e below full more = (
  let long = length-append begun (bit ∷ []) in
      let seven = eqb-true (length begun) 7 e in
      let eight : length (begun ++ bit ∷ []) ≡ 8 = omega (arith, long, seven) in
      let power : 2 ^ length (begun ++ bit ∷ []) ≡ 256 = ap (λ (n : ℕ). 2 ^ n) eight in
      omega (arith, power, number_below (begun ++ bit ∷ [])),
  full,
)
byte_filled false begun bits bit e below full more =
    let other : length begun ≡ 7 → ⊥ = λ seven. false≢true (sym e ∙ eq-eqb (length begun) 7 seven) in
    more (omega (arith, length-append begun (bit ∷ []), below, other))

bytes_are : (begun bits : List Bool) → length begun < 8 → AreBytes (bytes_after begun bits)
bytes_are begun [] below = tt
bytes_are begun (bit ∷ bits) below =
    byte_filled (length begun == 7) begun bits bit refl below (bytes_are [] bits (omega arith)) (bytes_are (begun ++ bit ∷ []) bits)

stuffed_are : (bytes : List ℕ) → AreBytes bytes → AreBytes (stuffed bytes)
stuffed_are [] all = tt
stuffed_are (byte ∷ bytes) all =
    (all.0, either_holds AreBytes (byte == 255) (0 ∷ stuffed bytes) (stuffed bytes) (omega arith, stuffed_are bytes all.1) (stuffed_are bytes all.1))

pub all_both : (xs ys : List ℕ) → AreBytes xs → AreBytes ys → AreBytes (xs ++ ys)
all_both [] ys p q = q
all_both (x ∷ xs) ys p q = (p.0, all_both xs ys p.1 q)

-- bytes that are few
abbrev AreFew : ℕ → List ℕ → Type 0
AreFew most bytes = (length bytes ≤ most) × AreBytes bytes

bits_few : (begun bits : List Bool) (most : ℕ) → length begun < 8 → length bits ≤ most → AreFew (2 * ((7 + most) / 8)) (stuffed (bytes_after begun bits))
bits_few begun bits most below few = (
  let count = bytes_count begun bits below in
      let twice = few_stuffed (bytes_after begun bits) in
      omega (arith, count, twice, below, few),
  stuffed_are (bytes_after begun bits) (bytes_are begun bits below),
)

marker_few : (shape : Shape) (count : ℕ) → AreFew 2 (marker_after shape count)
marker_few shape count =
    let n = interval_number shape count in
    let below : n % 8 < 8 = mod-lt n (omega arith) in
    either_holds (AreFew 2) (count + 1 == shape.mcus) [] (restart_marker n)
    (omega arith, tt)
    (omega arith, (omega arith, (omega (arith, below), tt)))

-- bytes that were put and the spot after them
pub record IsFew (spot : Spot) (made : List ℕ × Spot) : Type 0 where
  pub few : length made.0 ≤ 588
  pub bytes : AreBytes made.0
  pub begun : length made.1.begun < 8
  pub before : AreDrawnDcs made.1.before
  pub count : made.1.count ≡ spot.count + 1

put_few : (shape : Shape) (spot : Spot) (before : List ℤ) (bits : List Bool) → length spot.begun < 8 → AreDrawnDcs before → length bits ≤ 2337
    → IsFew spot (put_bits shape (λ n. true) spot before bits)
put_few shape spot before bits below dcs few =
    let pads = padding (begun_after spot.begun bits) true in
    let free = 8 - length (begun_after spot.begun bits) in
    let some : free % 8 < 8 = mod-lt free (omega arith) in
    let seven : length pads ≤ 7 = omega (arith, length-replicate (free % 8) true, some) in
    let closed = bits_few spot.begun (bits ++ pads) 2344 below (omega (arith, length-append bits pads, few, seven)) in
    let open_ = bits_few spot.begun bits 2337 below few in
    let marker = marker_few shape spot.count in
    let over : (length spot.begun + length bits) % 8 < 8 = mod-lt (length spot.begun + length bits) (omega arith) in
    let text = stuffed (bytes_after spot.begun (bits ++ pads)) in
    either_holds (IsFew spot) (is_closed shape (spot.count + 1)) _ _
    (record {
      few = omega (arith, length-append text (marker_after shape spot.count), closed.0, marker.0);
      bytes = all_both text (marker_after shape spot.count) closed.1 marker.1;
      begun = omega arith;
      before = (omega arith, (omega arith, (omega arith, (omega arith, tt))));
      count = refl;
    })
    (record {
      few = omega (arith, open_.0);
      bytes = open_.1;
      begun = omega (arith, begun_count spot.begun bits below, over);
      before = dcs;
      count = refl;
    })

-- ---- an MCU

-- it has bytes, and they are few
pub record IsPutFew (shape : Shape) (spot : Spot) (mcu : Mcu) : Type 0 where
  pub made : List ℕ × Spot
  pub is : mcu_put shape (λ n. true) spot mcu ≡ Ok made
  pub few : IsFew spot made

pub mcu_few : (shape : Shape) (spot : Spot) (state : ℕ) → shape.slots ≡ sample_slots → length spot.begun < 8 → AreDrawnDcs spot.before
    → IsPutFew shape spot (drawn_blocks 3 state).value
unfolding mcu_put
mcu_few shape spot state slots below dcs =
    let mcu = (drawn_blocks 3 state).value in
    let are = blocks_are sample_slots spot.before mcu (refl, (refl, (refl, tt))) dcs (blocks_drawn 3 state) in
    let text : blocks_text shape.slots spot.before mcu ≡ Ok are.0.0 = ap (λ s. blocks_text s spot.before mcu) slots ∙ are.0.1 in
    let after : AreDrawnDcs (dcs_after shape.slots spot.before mcu) = subst (λ s. AreDrawnDcs (dcs_after s spot.before mcu)) (sym slots) are.1 in
    record {
      made = put_bits shape (λ n. true) spot (dcs_after shape.slots spot.before mcu) are.0.0;
      is = ap (put_text shape (λ n. true) spot (dcs_after shape.slots spot.before mcu)) text;
      few = put_few shape spot (dcs_after shape.slots spot.before mcu) are.0.0 below after (omega (arith, are.0.2));
    }
