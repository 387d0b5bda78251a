-- What intervals pad, of which the first was begun.
use Rattle.std.proofs.Common.{◌≡◌, ℕ, zero, suc, ◌+◌, ◌-◌, ◌%◌, ◌<◌, Bool, true, ◌==◌, List, [], ◌∷◌, ◌++◌, length, ℤ, Ok, Err, refl, sym, ap, ap₂, ◌∙◌, arith, append-nil, inl, inr}
use Rattle.std.specs.Prelude.{flat_map}
use Rattle.std.specs.List.{onto_first}
use Rattle.std.proofs.lemmas.Bool.{eqb-true, eq-eqb, false_from_ne_true, cases_eq}
use Rattle.std.proofs.lemmas.List.{length-replicate}
use Rattle.bit_list.specs.Bits.{begun_after, padding}
use Rattle.bit_list.proofs.Wholes.{begun_cut, begun_count}
use Rattle.handover.specs.PadSums.{no_pads, pads_with}
use Rattle.handover.specs.declared.pads.PadSum.{PadSum}
use Rattle.scan_spec.specs.BlockBits.{Text, prefixed, then_text}
use Rattle.scan_spec.specs.Blocks.{blocks_text, dcs_after}
use Rattle.scan_spec.specs.Pads.{PadBits, interval_sum, intervals_sum}
use Rattle.scan_spec.specs.Scans.{Mcu, no_dcs, mcus_bits, pad_bits_of, pad_counts}
use Rattle.scan_spec.specs.declared.slot.Slot.{Slot}
use Rattle.scan_spec.proofs.Cuts.{text_in_parts}
use Rattle.container_spec.specs.ScanStream.{blocks_of}

same_test : (n k : ℕ) → (k ≡ 0 → n ≡ 0) → (n ≡ 0 → k ≡ 0) → (n == 0) ≡ (k == 0)
same_test n k to from = elim (cases_eq n 0) [
  | inl e ↦ eq-eqb n 0 e ∙ sym (eq-eqb k 0 (from e))
  | inr ne ↦ false_from_ne_true (n == 0) (λ e. ne (eqb-true n 0 e))
      ∙ sym (false_from_ne_true (k == 0) (λ e. ne (to (eqb-true k 0 e))))
]

-- pad bits after a text that follows the bits of a byte begun
abbrev pub pads_after : List Bool → Text → ℕ
pads_after begun (Ok bits) = length (padding (begun_after begun bits) true)
pads_after begun (Err stop) = 0

-- whether bits leave no byte begun
abbrev pub leaves_none : List Bool → List Bool → Bool
leaves_none begun bits = length (begun_after begun bits) == 0

pub tells_pads : (begun bits : List Bool) → length begun < 8
    → leaves_none begun bits ≡ (pads_after begun (Ok bits) == 0)
tells_pads begun bits few =
    let rest = begun_after begun bits in
    let count = begun_count begun bits few in
    let long = length-replicate ((8 - length rest) % 8) true in
    same_test (length rest) (length (padding rest true))
    (λ e. omega (arith, e, count, long)) (λ e. omega (arith, e, count, long))

prefix_pads : (begun a : List Bool) (t : Text)
    → pads_after begun (prefixed a t) ≡ pads_after (begun_after begun a) t
prefix_pads begun a (Ok b) = ap (λ (l : List Bool). length (padding l true)) (begun_cut begun a b)
prefix_pads begun a (Err stop) = refl

-- the slots of MCUs
abbrev slots_for : List Slot → List Mcu → List Slot
slots_for slots mcus = flat_map (λ mcu. slots) mcus

-- what intervals from n on come to, of which the first was begun
abbrev pub rest_sum : PadBits → ℕ → List Slot → List Bool → List ℤ → List (List Mcu) → PadSum
rest_sum pads n slots begun before [] = no_pads
rest_sum pads n slots begun before (mcus ∷ more) =
    pads_with (interval_sum pads n
    (pads_after begun (blocks_text (slots_for slots mcus) before (blocks_of mcus)) == 0))
    (intervals_sum pads (n + 1) (pad_counts slots more))

same_pads : (t : Text) → pads_after [] t ≡ pad_bits_of t
same_pads (Ok bits) = refl
same_pads (Err stop) = refl

-- the first of some intervals
first_sum : (pads : PadBits) (n count : ℕ) (counts : List ℕ)
    → intervals_sum pads n (count ∷ counts)
    ≡ pads_with (interval_sum pads n (count == 0)) (intervals_sum pads (n + 1) counts)
first_sum pads n zero counts = refl
first_sum pads n (suc count) counts =
    ap (λ t. pads_with (interval_sum pads n t) (intervals_sum pads (n + 1) counts))
    (sym (false_from_ne_true (suc count == 0)
    (λ e. let z = eqb-true (suc count) 0 e in absurd (omega (arith, z)))))

pub rest_is : (pads : PadBits) (n : ℕ) (slots : List Slot) (all : List (List Mcu))
    → rest_sum pads n slots [] no_dcs all ≡ intervals_sum pads n (pad_counts slots all)
unfolding mcus_bits
rest_is pads n slots [] = refl
rest_is pads n slots (mcus ∷ more) =
    ap (λ (k : ℕ). pads_with (interval_sum pads n (k == 0))
    (intervals_sum pads (n + 1) (pad_counts slots more)))
    (same_pads (blocks_text (slots_for slots mcus) no_dcs (blocks_of mcus)))
    ∙ sym (first_sum pads n (pad_bits_of (mcus_bits slots mcus)) (pad_counts slots more))

-- an MCU before an interval's others
pub rest_onto : (pads : PadBits) (n : ℕ) (slots : List Slot) (begun bits : List Bool)
    (before : List ℤ) (mcu : Mcu) (all : List (List Mcu)) → 0 < length all
    → length slots ≡ length mcu → blocks_text slots before mcu ≡ Ok bits
    → rest_sum pads n slots begun before (onto_first mcu all)
    ≡ rest_sum pads n slots (begun_after begun bits) (dcs_after slots before mcu) all
rest_onto pads n slots begun bits before mcu [] some size e = absurd (omega (arith, some))
rest_onto pads n slots begun bits before mcu (i ∷ is) some size e =
    let t = blocks_text (slots_for slots i) (dcs_after slots before mcu) (blocks_of i) in
    let whole : blocks_text (slots ++ slots_for slots i) before (mcu ++ blocks_of i)
    ≡ prefixed bits t =
    text_in_parts slots (slots_for slots i) before mcu (blocks_of i) size
    ∙ ap (λ (x : Text). then_text x t) e in
    ap (λ (k : ℕ). pads_with (interval_sum pads n (k == 0))
    (intervals_sum pads (n + 1) (pad_counts slots is)))
    (ap (pads_after begun) whole ∙ prefix_pads begun bits t)

-- an MCU that ends an interval
pub rest_alone : (pads : PadBits) (n : ℕ) (slots : List Slot) (begun bits : List Bool)
    (before : List ℤ) (mcu : Mcu) (all : List (List Mcu)) → blocks_text slots before mcu ≡ Ok bits
    → rest_sum pads n slots begun before ((mcu ∷ []) ∷ all)
    ≡ pads_with (interval_sum pads n (pads_after begun (Ok bits) == 0))
    (intervals_sum pads (n + 1) (pad_counts slots all))
rest_alone pads n slots begun bits before mcu all e =
    let whole : blocks_text (slots ++ []) before (mcu ++ []) ≡ Ok bits =
    ap₂ (λ (s : List Slot) (b : Mcu). blocks_text s before b) (append-nil slots) (append-nil mcu)
    ∙ e in
    ap (λ (t : Text). pads_with (interval_sum pads n (pads_after begun t == 0))
    (intervals_sum pads (n + 1) (pad_counts slots all))) whole
