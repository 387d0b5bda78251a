-- What a unit begun hands over: which of its bits were taken, its place, and the cursor after them.
use Rattle.std.proofs.Common.{◌≡◌, ℕ, suc, ◌+◌, ◌-◌, ◌%◌, Bool, false, ◌==◌, if◌then◌else◌, List, [], ◌∷◌, ◌++◌, length, take, replicate, Result, Ok, refl, sym, ap, ◌∙◌, arith, length-append}
use Rattle.std.proofs.lemmas.Bool.{eqb-true, false_from_ne_true}
use Rattle.std.proofs.lemmas.List.{take_at, length-replicate}
use Rattle.bit_list.specs.Bits.{low_bits, padding}
use Rattle.bit_list.specs.NumbersOfBits.{length-low_bits}
use Rattle.bit_list.specs.Units.{Cursor, and_then, starting, filled, bits_at}
use Rattle.bit_list.specs.declared.fault.BitFault.{BitFault}
use Rattle.bit_list.proofs.Cursors.{filled_now, bits_left, bits_filled}
use Rattle.scan_spec.specs.ScanCalls.{resume_place}
use Rattle.cut_spec.specs.HandedOver.{cursor_or, cursor_from, begun_in}
use Rattle.cut_spec.proofs.BitsOn.{standing, byte_at}
use Rattle.cut_spec.proofs.UnitsBegun.{BegunBy, IsBegun}

some_left : (bit : Bool) (left : List Bool) → (length (bit ∷ left) == 0) ≡ false
some_left bit left = false_from_ne_true (length (bit ∷ left) == 0)
    (λ e. let h = eqb-true (length (bit ∷ left)) 0 e in omega (arith, h))

-- eight bits in all
eight : (bit : Bool) (left begun : List Bool) (byte : ℕ) → low_bits 8 byte ≡ begun ++ bit ∷ left
    → length begun + suc (length left) ≡ 8
eight bit left begun byte bits =
    let a = ap length bits in
    let b = length-append begun (bit ∷ left) in
    let c = length-low_bits 8 byte in
    omega (arith, a, b, c)

-- the bits that were taken
taken_by : (left : List Bool) (bytes : List ℕ) (place skip last next : ℕ) (begun : List Bool)
    → BegunBy bytes place begun left last next
    → begun_in bytes (record { left = left; skip = skip; last = last; next = next }) ≡ begun
taken_by [] bytes place skip last next begun b = sym b.0
taken_by (bit ∷ left) bytes place skip last next begun b =
    let n = 8 - length (bit ∷ left) in
    let whole = eight bit left begun (byte_at bytes place) b.3 in
    let count : length begun ≡ n = omega (arith, whole) in
    ap (λ (t : Bool). if t then [] else take n (low_bits 8 (byte_at bytes last)))
    (some_left bit left) ∙ ap (λ (p : ℕ). take n (low_bits 8 (byte_at bytes p))) b.0
    ∙ ap (take n) b.3 ∙ take_at begun (bit ∷ left) n count

pub taken_is : (bytes : List ℕ) (place : ℕ) (begun : List Bool) (cursor : Cursor)
    → IsBegun bytes place begun cursor → begun_in bytes cursor ≡ begun
taken_is bytes place begun cursor at =
    taken_by cursor.left bytes place cursor.skip cursor.last cursor.next begun at.unit

-- the place
place_by : (left : List Bool) (bytes : List ℕ) (place skip last next : ℕ) (begun : List Bool)
    → BegunBy bytes place begun left last next
    → resume_place (record { left = left; skip = skip; last = last; next = next }) ≡ place
place_by [] bytes place skip last next begun b = b.1
place_by (bit ∷ left) bytes place skip last next begun b =
    ap (λ (t : Bool). if t then next else last) (some_left bit left) ∙ b.0

pub place_is : (bytes : List ℕ) (place : ℕ) (begun : List Bool) (cursor : Cursor)
    → IsBegun bytes place begun cursor → resume_place cursor ≡ place
place_is bytes place begun cursor at =
    place_by cursor.left bytes place cursor.skip cursor.last cursor.next begun at.unit

-- as many bits are left as are padded
left_by : (left : List Bool) (bytes : List ℕ) (place last next : ℕ) (begun : List Bool)
    → BegunBy bytes place begun left last next → (8 - length begun) % 8 ≡ length left
left_by [] bytes place last next begun b = let none = ap length b.0 in omega (arith, none)
left_by (bit ∷ left) bytes place last next begun b =
    let whole = eight bit left begun (byte_at bytes place) b.3 in
    let some = b.1 in
    omega (arith, whole, some)

pub pads_are_left : (bytes : List ℕ) (place k : ℕ) (begun : List Bool) (cursor : Cursor)
    (pad : Bool) → IsBegun bytes place begun cursor → cursor.left ≡ replicate k pad
    → cursor.left ≡ padding begun pad
pads_are_left bytes place k begun cursor pad at left =
    let count : k ≡ (8 - length begun) % 8 =
    sym (length-replicate k pad) ∙ sym (ap length left)
    ∙ sym (left_by cursor.left bytes place cursor.last cursor.next begun at.unit) in
    left ∙ ap (λ (n : ℕ). replicate n pad) count

-- the cursor after the bits that were taken
entered_by : (left : List Bool) (bytes : List ℕ) (place last next : ℕ) (begun : List Bool)
    → BegunBy bytes place begun left last next
    → cursor_from bytes place (length begun) ≡ standing left place next
unfolding bits_at
entered_by [] bytes place last next begun b =
    ap (λ (l : List Bool). cursor_from bytes place (length l)) b.0
    ∙ ap (standing [] place) (sym b.1)
entered_by (bit ∷ left) bytes place last next begun b =
    let byte = byte_at bytes place in
    let full = standing (low_bits 8 byte) place next in
    let f : filled bytes (starting place 0) ≡ Ok full =
    filled_now bytes (starting place 0) refl
    ∙ ap
    (λ (r : Result (ℕ × ℕ) BitFault). and_then {A = ℕ × ℕ} {B = Cursor} r
    (λ x. Ok (standing (low_bits 8 x.0) place x.1))) b.2 in
    ap (cursor_or (starting place (length begun)))
    (bits_filled (length begun) bytes (starting place 0) full b.1 f (omega arith)
    ∙ ap (λ (l : List Bool). bits_at (length begun) bytes (standing l place next)) b.3
    ∙ bits_left begun (bit ∷ left) bytes 0 place next)

again_by : (left : List Bool) (bytes : List ℕ) (place last next : ℕ) (begun : List Bool)
    → BegunBy bytes place begun left last next → BegunBy bytes place begun left place next
again_by [] bytes place last next begun b = b
again_by (bit ∷ left) bytes place last next begun b = (refl, b.1, b.2, b.3)

pub entered : (bytes : List ℕ) (place : ℕ) (begun : List Bool) (cursor : Cursor)
    → IsBegun bytes place begun cursor
    → cursor_from bytes place (length begun) ≡ record cursor { last = place }
entered bytes place begun cursor at =
    entered_by cursor.left bytes place cursor.last cursor.next begun at.unit
    ∙ ap (λ (k : ℕ). record cursor { skip = k; last = place }) (sym at.skip)

pub begun_again : (bytes : List ℕ) (place : ℕ) (begun : List Bool) (cursor : Cursor)
    → IsBegun bytes place begun cursor → IsBegun bytes place begun (record cursor { last = place })
begun_again bytes place begun cursor at =
    record {
      skip = at.skip;
      unit =
          again_by cursor.left bytes place cursor.last cursor.next begun at.unit;
    }
