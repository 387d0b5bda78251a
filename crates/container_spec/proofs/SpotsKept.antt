-- Spots between two MCUs can be handed over.
use Rattle.std.proofs.Common.{◌≡◌, ◌≢◌, ℕ, zero, suc, ◌+◌, ◌-◌, ◌/◌, ◌%◌, ◌^◌, ◌<◌, ◌≤◌, Bool, true, false, if◌then◌else◌, List, [], ◌∷◌, ◌++◌, length, drop, replicate, Ok, Err, refl, sym, ap, subst, ◌∙◌, arith, ℤ, pos, length-append}
use Rattle.std.specs.Prelude.{All, slice_index_or, min, ◌||◌, ◌==◌}
use Rattle.std.specs.List.{AllByRecursion, list_any}
use Rattle.std.proofs.lemmas.Bool.{eq-eqb}
use Rattle.std.proofs.lemmas.List.{length-set, length-replicate, get_or-set_other}
use Rattle.std.proofs.lemmas.List.Elements.{All-set, All-from_recursion}
use Rattle.std.proofs.Math.Nat.{div-le_self, mod-mod}
use Rattle.std.proofs.lemmas.Nat.{mod_below, pow_pos}
use Rattle.std.proofs.Math.Seq.{drop-append_seam}
use Rattle.bit_list.specs.Bits.{low_bits, number_of}
use Rattle.bit_list.specs.NumbersOfBits.{number_again}
use Rattle.bit_list.proofs.LowBits.{low_bits-same, drop-low_bits, bits_again, number_below}
use Rattle.coef_block.specs.Block.{IsBlock, IsDc}
use Rattle.scan_spec.specs.BlockBits.{Text}
use Rattle.scan_spec.specs.Blocks.{blocks_text, dcs_after, dcs_after_block}
use Rattle.scan_spec.specs.Scans.{Mcu, IsMcu, no_dcs}
use Rattle.scan_spec.specs.Slots.{Shape}
use Rattle.scan_spec.specs.Spots.{Spot, is_closed, first_spot, put_bits, put_text, mcu_put, mcus_put}
use Rattle.scan_spec.specs.declared.slot.Slot.{Slot}
use Rattle.handover.specs.Handovers.{IsHandover}
use Rattle.cut_spec.specs.RowHandovers.{handover_of, partial_byte, markers_before}
use Rattle.cut_spec.proofs.SpotsBegun.{spots_are_begun}
use Rattle.container_spec.specs.SegmentLaws.{IsSpot}
use Rattle.container_spec.proofs.PutParts.{put_parts}

-- ---- the last DCs of blocks

dcs_kept : (slots : List Slot) (before : List ℤ) (blocks : List (List ℤ)) → All IsDc before
    → AllByRecursion IsBlock blocks → All IsDc (dcs_after slots before blocks)
unfolding dcs_after
dcs_kept [] before blocks all each = all
dcs_kept (slot ∷ slots) before [] all each = all
dcs_kept (slot ∷ slots) before (block ∷ blocks) all each =
    let dc = each.0.coefficients 0 (omega arith) in
    dcs_kept slots (dcs_after_block before slot block) blocks
    (All-set IsDc before slot.component _ dc all) each.1

dcs_four : (slots : List Slot) (before : List ℤ) (blocks : List (List ℤ))
    → length (dcs_after slots before blocks) ≡ length before
unfolding dcs_after
dcs_four [] before blocks = refl
dcs_four (slot ∷ slots) before [] = refl
dcs_four (slot ∷ slots) before (block ∷ blocks) =
    dcs_four slots (dcs_after_block before slot block) blocks
    ∙ length-set before slot.component _

other_slot : (a b : Bool) → a || b ≡ false → (a ≡ false) × (b ≡ false)
other_slot true b e = absurd (let f : true ≡ false = e in cc)
other_slot false b e = (refl, e)

apart : (n c : ℕ) → (n == c) ≡ false → c ≢ n
apart n c e same = let f : true ≡ false = sym (eq-eqb n c (sym same)) ∙ e in cc

dcs_unused : (slots : List Slot) (before : List ℤ) (blocks : List (List ℤ)) (c : ℕ)
    → list_any (λ slot. slot.component == c) slots ≡ false
    → slice_index_or (dcs_after slots before blocks) c (pos 0) ≡ slice_index_or before c (pos 0)
unfolding dcs_after
dcs_unused [] before blocks c none = refl
dcs_unused (slot ∷ slots) before [] c none = refl
dcs_unused (slot ∷ slots) before (block ∷ blocks) c none =
    let parts =
    other_slot (slot.component == c) (list_any (λ slot. slot.component == c) slots) none in
    dcs_unused slots (dcs_after_block before slot block) blocks c parts.1
    ∙ get_or-set_other before slot.component c _ (pos 0) (apart slot.component c parts.0)

-- ---- what holds of the last DCs of an interval

pub record IsKept (slots : List Slot) (P : List ℤ → Type 0) : Type 0 where
  pub none : P no_dcs
  pub more : (before : List ℤ) (mcu : Mcu) → IsMcu slots mcu → P before
      → P (dcs_after slots before mcu)

either_kept : (t : Bool) (P : List ℤ → Type 0) (a b : List ℕ × Spot) → P a.1.before → P b.1.before
    → P (if t then a else b).1.before
either_kept true P a b h k = h
either_kept false P a b h k = k

kept_text : (P : List ℤ → Type 0) (shape : Shape) (pads : ℕ → Bool) (spot next : Spot)
    (before : List ℤ) (bytes : List ℕ) (text : Text) → P no_dcs → P before
    → put_text shape pads spot before text ≡ Ok (bytes, next) → P next.before
kept_text P shape pads spot next before bytes (Ok bits) none last e =
    let same : put_bits shape pads spot before bits ≡ (bytes, next) = cc in
    subst (λ (made : List ℕ × Spot). P made.1.before) same
    (either_kept (is_closed shape (spot.count + 1)) P _ _ none last)
kept_text P shape pads spot next before bytes (Err stop) none last e =
    absurd (let f : Err stop ≡ Ok (bytes, next) = e in cc)

kept_mcu : (P : List ℤ → Type 0) (shape : Shape) (pads : ℕ → Bool) (spot next : Spot) (mcu : Mcu)
    (bytes : List ℕ) → IsKept shape.slots P → IsMcu shape.slots mcu → P spot.before
    → mcu_put shape pads spot mcu ≡ Ok (bytes, next) → P next.before
unfolding mcu_put
kept_mcu P shape pads spot next mcu bytes kept is last put =
    kept_text P shape pads spot next (dcs_after shape.slots spot.before mcu) bytes
    (blocks_text shape.slots spot.before mcu) kept.none (kept.more spot.before mcu is last) put

pub kept_put : (P : List ℤ → Type 0) (shape : Shape) (pads : ℕ → Bool) (mcus : List Mcu)
    (spot next : Spot) (bytes : List ℕ) → IsKept shape.slots P
    → AllByRecursion (IsMcu shape.slots) mcus → P spot.before
    → mcus_put shape pads spot mcus ≡ Ok (bytes, next) → P next.before
unfolding mcus_put
kept_put P shape pads [] spot next bytes kept each last put =
    let same : spot ≡ next = ap (λ p. Rattle.scan_spec.specs.Spots.spot_in p) put in
    subst (λ (s : Spot). P s.before) same last
kept_put P shape pads (mcu ∷ mcus) spot next bytes kept each last put =
    let p =
    put_parts (mcu_put shape pads spot mcu) (λ n. mcus_put shape pads n mcus) bytes next put in
    kept_put P shape pads mcus p.at next p.more kept each.1
    (kept_mcu P shape pads spot p.at mcu p.before kept each.0 last p.first) p.then

-- ---- spots

no_dcs_are : All IsDc no_dcs
no_dcs_are =
    All-from_recursion IsDc no_dcs (omega arith, (omega arith, (omega arith, (omega arith, tt))))

-- four DCs
abbrev AreDcs : List ℤ → Type 0
AreDcs dcs = All IsDc dcs × (length dcs ≡ 4)

dcs_are_kept : (slots : List Slot) → IsKept slots AreDcs
dcs_are_kept slots = record {
  none = (no_dcs_are, refl);
  more = λ before mcu is last.
      (dcs_kept slots before mcu last.0 is.1, dcs_four slots before mcu ∙ last.1);
}

-- zero for a component without slots
abbrev IsZero : ℕ → List ℤ → Type 0
IsZero c dcs = slice_index_or dcs c (pos 0) ≡ pos 0

zero_at : (c : ℕ) → IsZero c no_dcs
zero_at zero = refl
zero_at (suc zero) = refl
zero_at (suc (suc zero)) = refl
zero_at (suc (suc (suc zero))) = refl
zero_at (suc (suc (suc (suc c)))) = refl

pub unused_are_kept : (slots : List Slot) (c : ℕ)
    → list_any (λ slot. slot.component == c) slots ≡ false → IsKept slots (IsZero c)
unused_are_kept slots c none = record {
  none = zero_at c;
  more = λ before mcu is last. dcs_unused slots before mcu c none ∙ last;
}

pub spot_kept : (shape : Shape) (pads : ℕ → Bool) (mcus : List Mcu) (spot next : Spot)
    (bytes : List ℕ) → AllByRecursion (IsMcu shape.slots) mcus → IsSpot spot
    → mcus_put shape pads spot mcus ≡ Ok (bytes, next) → IsSpot next
spot_kept shape pads mcus spot next bytes each is put =
    let begun = spots_are_begun shape pads mcus spot next bytes is.few put in
    let dcs = kept_put AreDcs shape pads mcus spot next bytes (dcs_are_kept shape.slots) each
    (is.dcs, is.four) put in
    record { few = begun.0; dcs = dcs.0; four = dcs.1 }

pub first_is_spot : IsSpot first_spot
first_is_spot = record { few = omega arith; dcs = no_dcs_are; four = refl }

-- ---- handovers

zeros_number : (k : ℕ) → number_of (replicate k false) ≡ 0
zeros_number zero = refl
zeros_number (suc k) = zeros_number k

zeros_after : (bits : List Bool) (k : ℕ) → number_of (bits ++ replicate k false) % 2 ^ k ≡ 0
zeros_after bits k =
    let all = bits ++ replicate k false in
    let n = number_of all in
    let long : length all ≡ length bits + k =
    length-append bits (replicate k false) ∙ ap (λ m. length bits + m) (length-replicate k false) in
    let low : low_bits k n ≡ replicate k false =
    sym (drop-low_bits (length bits) k n) ∙ ap (λ m. drop (length bits) (low_bits m n)) (sym long)
    ∙ ap (drop (length bits)) (bits_again all) ∙ drop-append_seam bits (replicate k false) in
    let small : n % 2 ^ k < 2 ^ k = mod_below n (2 ^ k) (pow_pos k) in
    sym (number_again k (n % 2 ^ k) small)
    ∙ ap number_of (low_bits-same k (n % 2 ^ k) n (mod-mod n (2 ^ k)) ∙ low) ∙ zeros_number k

few_by : (t : Bool) (a b : ℕ) → a < 2 ^ 32 → b < 2 ^ 32 → (if t then a else b) < 2 ^ 32
few_by true a b h k = h
few_by false a b h k = k

markers_few : (shape : Shape) (count : ℕ) → shape.mcus ≤ 2 ^ 32
    → markers_before shape count < 2 ^ 32
markers_few shape count few =
    let last = min count (shape.mcus - 1) in
    let less : last / shape.interval ≤ last = div-le_self last shape.interval in
    few_by (shape.interval == 0) 0 (last / shape.interval) (omega arith)
    (omega (arith, less, few))

byte_is : (bits : List Bool) → length bits < 8 → partial_byte bits < 256
byte_is bits few =
    let zeros = replicate (8 - length bits) false in
    let long : length (bits ++ zeros) ≡ 8 =
    length-append bits zeros
    ∙ ap (λ m. length bits + m) (length-replicate (8 - length bits) false)
    ∙ (let e : length bits + (8 - length bits) ≡ 8 = omega (arith, few) in e) in
    subst (λ n. partial_byte bits < 2 ^ n) long (number_below (bits ++ zeros))

pub handover_is : (shape : Shape) (spot : Spot) → shape.mcus ≤ 2 ^ 32 → IsSpot spot
    → IsHandover (handover_of shape spot)
handover_is shape spot few is = record {
  few = let h = is.few in omega (arith, h);
  blank = zeros_after spot.begun (8 - length spot.begun);
  range = is.dcs;
  four = is.four;
  byte = byte_is spot.begun is.few;
  count = markers_few shape spot.count few;
}
