-- A list of pad bits has one for each interval.
use Rattle.std.proofs.Common.{◌≡◌, ℕ, zero, suc, ◌+◌, ◌-◌, ◌<◌, ◌≤◌, Bool, true, false, ◌==◌, length, refl, ap, arith}
use Rattle.std.proofs.lemmas.Bool.{eqb-true}
use Rattle.scan_spec.specs.Slots.{Shape}
use Rattle.scan_spec.specs.Scans.{ends_interval}
use Rattle.scan_spec.specs.Spots.{interval_number}
use Rattle.scan_spec.specs.Pads.{PadBits, Same, Listed, HasBit, is_long_for, list_room}
use Rattle.scan_spec.proofs.PutWhole.{number_next_of, number_same_of}

one_on : (ends : Bool) (shape : Shape) (count : ℕ) → ends_interval shape.interval (count + 1) ≡ ends → interval_number shape count ≤ interval_number shape (count + 1)
one_on true shape count e = let h = number_next_of (shape.interval == 0) shape.interval count refl e in omega (arith, h)
one_on false shape count e = let h = number_same_of (shape.interval == 0) shape.interval count refl e in omega (arith, h)

numbers_on : (more : ℕ) (shape : Shape) (count : ℕ) → interval_number shape count ≤ interval_number shape (count + more)
numbers_on zero shape count = let e : count + 0 ≡ count = omega arith in let h = ap (interval_number shape) e in omega (arith, h)
numbers_on (suc more) shape count =
    let e : count + suc more ≡ count + more + 1 = omega arith in
    let h = ap (interval_number shape) e in
    let first = numbers_on more shape count in
    let last = one_on (ends_interval shape.interval (count + more + 1)) shape (count + more) refl in
    omega (arith, h, first, last)

-- the number of an MCU's interval is at most that of the last one
pub number_within : (shape : Shape) (count : ℕ) → count < shape.mcus → interval_number shape count ≤ interval_number shape (shape.mcus - 1)
number_within shape count below =
    let e : count + (shape.mcus - 1 - count) ≡ shape.mcus - 1 = omega (arith, below) in
    let h = ap (interval_number shape) e in
    let on = numbers_on (shape.mcus - 1 - count) shape count in
    omega (arith, h, on)

pub has_bit : (pads : PadBits) (shape : Shape) (count : ℕ) → is_long_for shape pads ≡ true → count < shape.mcus → HasBit pads (interval_number shape count)
has_bit (Same bit) shape count e below = tt
has_bit (Listed bytes) shape count e below =
    let long = eqb-true (length bytes) (list_room shape) e in
    let within = number_within shape count below in
    omega (arith, long, within)
