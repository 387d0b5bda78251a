-- What is put are bytes.
use Rattle.std.proofs.Common.{◌≡◌, ℕ, ◌+◌, ◌^◌, ◌<◌, Bool, true, false, if◌then◌else◌, List, [], ◌∷◌, ◌++◌, length, Ok, Err, refl, sym, ap, subst, arith, ℤ, length-append}
use Rattle.std.specs.Prelude.{◌==◌}
use Rattle.std.specs.List.{AllByRecursion}
use Rattle.std.proofs.lemmas.Bool.{eqb-true}
use Rattle.std.proofs.lemmas.Nat.{mod_below}
use Rattle.huff_table.proofs.Pairs.{all-append}
use Rattle.bit_list.specs.Bits.{IsByte, number_of, bytes_after, begun_after, padding, stuffed}
use Rattle.bit_list.proofs.LowBits.{number_below}
use Rattle.scan_spec.specs.BlockBits.{Text}
use Rattle.scan_spec.specs.Blocks.{blocks_text, dcs_after}
use Rattle.scan_spec.specs.Scans.{Mcu, restart_marker}
use Rattle.scan_spec.specs.Slots.{Shape}
use Rattle.scan_spec.specs.Spots.{Spot, is_closed, interval_number, marker_after, put_bits, put_text, mcu_put, mcus_put}
use Rattle.container_spec.proofs.PutParts.{bytes_in, put_parts}

abbrev AreBytes : List ℕ → Type 0
AreBytes bytes = AllByRecursion IsByte bytes

whole_byte : (begun : List Bool) (bit : Bool) → length begun ≡ 7
    → number_of (begun ++ bit ∷ []) < 256
whole_byte begun bit e =
    let long : length (begun ++ bit ∷ []) ≡ 8 =
    (let a = length-append begun (bit ∷ []) in omega (arith, a, e)) in
    subst (λ n. number_of (begun ++ bit ∷ []) < 2 ^ n) long (number_below (begun ++ bit ∷ []))

byte_by : (t : Bool) (begun bits : List Bool) (bit : Bool) → (t ≡ true → length begun ≡ 7)
    → AreBytes (bytes_after [] bits) → AreBytes (bytes_after (begun ++ bit ∷ []) bits)
    → AreBytes (if t then number_of (begun ++ bit ∷ []) ∷ bytes_after [] bits
    else bytes_after (begun ++ bit ∷ []) bits)
byte_by true begun bits bit seven next more = (whole_byte begun bit (seven refl), next)
byte_by false begun bits bit seven next more = more

-- the bytes that bits complete
pub completed : (bits begun : List Bool) → AreBytes (bytes_after begun bits)
completed [] begun = tt
completed (bit ∷ bits) begun =
    byte_by (length begun == 7) begun bits bit (eqb-true (length begun) 7) (completed bits [])
    (completed bits (begun ++ bit ∷ []))

stuffed_by : (t : Bool) (bytes : List ℕ) → AreBytes bytes
    → AreBytes (if t then 0 ∷ bytes else bytes)
stuffed_by true bytes all = (omega arith, all)
stuffed_by false bytes all = all

stuffed_are : (bytes : List ℕ) → AreBytes bytes → AreBytes (stuffed bytes)
stuffed_are [] all = tt
stuffed_are (byte ∷ bytes) all =
    (all.0, stuffed_by (byte == 255) (stuffed bytes) (stuffed_are bytes all.1))

marker_by : (t : Bool) (n : ℕ) → AreBytes (if t then [] else restart_marker n)
marker_by true n = tt
marker_by false n =
    let h = mod_below n 8 (omega arith) in (omega arith, (omega (arith, h), tt))

by_end : (t : Bool) (a b : List ℕ × Spot) → AreBytes a.0 → AreBytes b.0
    → AreBytes (if t then a else b).0
by_end true a b h k = h
by_end false a b h k = k

of_bits : (shape : Shape) (pads : ℕ → Bool) (spot : Spot) (before : List ℤ) (bits : List Bool)
    → AreBytes (put_bits shape pads spot before bits).0
of_bits shape pads spot before bits =
    let closed =
    bits ++ padding (begun_after spot.begun bits) (pads (interval_number shape spot.count)) in
    by_end (is_closed shape (spot.count + 1)) _ _
    (all-append IsByte (stuffed (bytes_after spot.begun closed)) (marker_after shape spot.count)
    (stuffed_are (bytes_after spot.begun closed) (completed closed spot.begun))
    (marker_by (spot.count + 1 == shape.mcus) (interval_number shape spot.count)))
    (stuffed_are (bytes_after spot.begun bits) (completed bits spot.begun))

of_text : (shape : Shape) (pads : ℕ → Bool) (spot : Spot) (before : List ℤ) (text : Text)
    → AreBytes (bytes_in (put_text shape pads spot before text))
of_text shape pads spot before (Ok bits) = of_bits shape pads spot before bits
of_text shape pads spot before (Err stop) = tt

of_mcu : (shape : Shape) (pads : ℕ → Bool) (spot : Spot) (mcu : Mcu)
    → AreBytes (bytes_in (mcu_put shape pads spot mcu))
unfolding mcu_put
of_mcu shape pads spot mcu =
    of_text shape pads spot (dcs_after shape.slots spot.before mcu)
    (blocks_text shape.slots spot.before mcu)

pub put_are_bytes : (shape : Shape) (pads : ℕ → Bool) (mcus : List Mcu) (spot end : Spot)
    (bytes : List ℕ) → mcus_put shape pads spot mcus ≡ Ok (bytes, end)
    → AllByRecursion IsByte bytes
unfolding mcus_put
put_are_bytes shape pads [] spot end bytes put = subst AreBytes (ap bytes_in put) tt
put_are_bytes shape pads (mcu ∷ mcus) spot end bytes put =
    let p =
    put_parts (mcu_put shape pads spot mcu) (λ n. mcus_put shape pads n mcus) bytes end put in
    subst AreBytes (sym p.joined)
    (all-append IsByte p.before p.more
    (subst AreBytes (ap bytes_in p.first) (of_mcu shape pads spot mcu))
    (put_are_bytes shape pads mcus p.at end p.more p.then))
