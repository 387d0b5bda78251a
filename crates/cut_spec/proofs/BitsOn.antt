-- The unit at a place, a bit taken of it, and cursors that never go back.
use Rattle.std.proofs.Common.{◌≡◌, ℕ, suc, ◌+◌, ◌<◌, ◌≤◌, Bool, true, false, ◌==◌, if◌then◌else◌, List, [], ◌∷◌, length, get_or, Result, Ok, Err, refl, sym, ap, ◌∙◌, subst, arith, inl, inr}
use Rattle.std.specs.Int.{bit_at as byte_bit}
use Rattle.std.proofs.lemmas.Bool.{eqb-true, false≢true, cases_lt}
use Rattle.bit_list.specs.Bits.{low_bits}
use Rattle.bit_list.specs.Units.{Cursor, and_then, unit_at, filled}
use Rattle.bit_list.specs.declared.fault.BitFault.{BitFault}
use Rattle.bit_list.specs.declared.fault.BitFault.TheVariants.{Cut, MarkerInScan}
use Rattle.bit_list.proofs.Stuffing.{unit_bytes, unit_past, unit_plain, unit_last, unit_marker, unit_stuffed}
use Rattle.bit_list.proofs.Cursors.{filled_now, bits_left, bits_filled, bits_fault}
use Rattle.scan_spec.proofs.BitsTaken.{Takes, takes_none, takes_split, done, is_both}

-- ---- the unit at a place

abbrev failed : {A : Type 0} → BitFault → Result A BitFault
failed e = Err e

apart : {A : Type 0} (e : BitFault) (x : A) → failed {A = A} e ≡ done x → ⊥
apart e x h = cc

-- how many bytes the unit of the byte at a place has
abbrev pub unit_length : List ℕ → ℕ → ℕ
unit_length bytes place = length (unit_bytes (get_or bytes place 0))

abbrev IsUnit : List ℕ → ℕ → ℕ → ℕ → Type 0
IsUnit bytes place unit next =
    (unit ≡ get_or bytes place 0) × (next ≡ place + unit_length bytes place)

-- by whether the byte is 0xff
abbrev length_by : Bool → ℕ
length_by full = suc (length {A = ℕ} (if full then 0 ∷ [] else []))

told : (bytes : List ℕ) (place byte size unit next : ℕ) (full : Bool)
    → (get_or bytes place 0 == 255) ≡ full → byte ≡ get_or bytes place 0 → size ≡ length_by full
    → unit_at bytes place ≡ Ok (byte, place + size) → unit_at bytes place ≡ Ok (unit, next)
    → IsUnit bytes place unit next
told bytes place byte size unit next full is same long a b =
    let v = is_both (byte, place + size) (unit, next) (sym a ∙ b) in
    (sym v.0 ∙ same, sym v.1 ∙ ap (λ (n : ℕ). place + n) (long ∙ ap length_by (sym is)))

plain_is : (bytes : List ℕ) (place unit next : ℕ) → (get_or bytes place 0 == 255) ≡ false
    → unit_at bytes place ≡ Ok (unit, next) → IsUnit bytes place unit next
plain_is bytes place unit next other e =
    elim (cases_lt place (length bytes)) [
      | inl below ↦ told bytes place (get_or bytes place 0) 1 unit next false other refl refl
          (unit_plain bytes place below
          (λ full. false≢true (sym other ∙ ap (λ (b : ℕ). b == 255) full))) e
      | inr past ↦ absurd
          (apart (Cut (length bytes)) (unit, next) (sym (unit_past bytes place past) ∙ e))
    ]

full_is : (none : Bool) (bytes : List ℕ) (place unit next : ℕ)
    → (get_or bytes place 0 == 255) ≡ true → (get_or bytes (place + 1) 0 == 0) ≡ none
    → place + 1 < length bytes
    → unit_at bytes place ≡ Ok (unit, next) → IsUnit bytes place unit next
full_is true bytes place unit next full is below e =
    let byte = eqb-true (get_or bytes place 0) 255 full in
    told bytes place 255 2 unit next true full (sym byte) refl
    (unit_stuffed bytes place below byte (eqb-true (get_or bytes (place + 1) 0) 0 is)) e
full_is false bytes place unit next full is below e =
    let byte = eqb-true (get_or bytes place 0) 255 full in
    absurd
    (apart (MarkerInScan place) (unit, next)
    (sym
    (unit_marker bytes place below byte (λ z. false≢true (sym is ∙ ap (λ (b : ℕ). b == 0) z)))
    ∙ e))

last_is : (bytes : List ℕ) (place unit next : ℕ) → (get_or bytes place 0 == 255) ≡ true
    → length bytes ≤ place + 1 → unit_at bytes place ≡ Ok (unit, next)
    → IsUnit bytes place unit next
last_is bytes place unit next full least e =
    elim (cases_lt place (length bytes)) [
      | inl below ↦ absurd
          (apart (Cut (length bytes)) (unit, next)
          (sym
          (unit_last bytes place (omega (arith, below, least))
          (eqb-true (get_or bytes place 0) 255 full)) ∙ e))
      | inr past ↦ absurd
          (apart (Cut (length bytes)) (unit, next) (sym (unit_past bytes place past) ∙ e))
    ]

unit_by : (full : Bool) (bytes : List ℕ) (place unit next : ℕ)
    → (get_or bytes place 0 == 255) ≡ full → unit_at bytes place ≡ Ok (unit, next)
    → IsUnit bytes place unit next
unit_by false bytes place unit next is e = plain_is bytes place unit next is e
unit_by true bytes place unit next is e =
    elim (cases_lt (place + 1) (length bytes)) [
      | inl below ↦ full_is (get_or bytes (place + 1) 0 == 0) bytes place unit next is refl below e
      | inr least ↦ last_is bytes place unit next is least e
    ]

pub unit_is : (bytes : List ℕ) (place unit next : ℕ) → unit_at bytes place ≡ Ok (unit, next)
    → IsUnit bytes place unit next
unit_is bytes place unit next e = unit_by (get_or bytes place 0 == 255) bytes place unit next refl e

-- ---- one bit

abbrev pub standing : List Bool → ℕ → ℕ → Cursor
standing left last next = record { left = left; skip = 0; last = last; next = next }

-- the byte at a place
abbrev pub byte_at : List ℕ → ℕ → ℕ
byte_at bytes place = get_or bytes place 0

-- the bit taken and the cursor after it, by the bits that are left
abbrev pub OneBit : List ℕ → List Bool → ℕ → ℕ → Bool → Cursor → Type 0
OneBit bytes [] last next bit to =
    (end : ℕ) × (unit_at bytes next ≡ Ok (byte_at bytes next, end))
    × (low_bits 8 (byte_at bytes next) ≡ bit ∷ low_bits 7 (byte_at bytes next))
    × (to ≡ standing (low_bits 7 (byte_at bytes next)) next end)
OneBit bytes (first ∷ left) last next bit to = (first ≡ bit) × (to ≡ standing left last next)

same_bit : (a b : Bool) (x y : Cursor)
    → done {A = List Bool × Cursor} (a ∷ [], x) ≡ done (b ∷ [], y) → (a ≡ b) × (x ≡ y)
same_bit a b x y e =
    let v = is_both {A = List Bool} {B = Cursor} (a ∷ [], x) (b ∷ [], y) e in
    (head_same v.0, v.1) where
      head_same : a ∷ [] ≡ b ∷ [] → a ≡ b
      head_same h = cc

fresh_bit : (bytes : List ℕ) (last next : ℕ) (bit : Bool) (to : Cursor)
    (r : Result (ℕ × ℕ) BitFault) → unit_at bytes next ≡ r
    → Takes bytes (standing [] last next) (bit ∷ []) to
    → OneBit bytes [] last next bit to
fresh_bit bytes last next bit to (Err fault) u e =
    let c = standing [] last next in
    let f : filled bytes c ≡ Err fault =
    filled_now bytes c refl
    ∙ ap
    (λ (r : Result (ℕ × ℕ) BitFault). and_then {A = ℕ × ℕ} {B = Cursor} r
    (λ x. Ok (standing (low_bits 8 x.0) next x.1))) u in
    absurd (apart fault (bit ∷ [], to) (sym (bits_fault 1 bytes c fault (omega arith) f) ∙ e))
fresh_bit bytes last next bit to (Ok x) u e =
    let c = standing [] last next in
    let byte = byte_at bytes next in
    let is : x.0 ≡ byte = (unit_is bytes next x.0 x.1 u).0 in
    let there : unit_at bytes next ≡ Ok (byte, x.1) = u ∙ ap (λ (n : ℕ). done (n, x.1)) is in
    let full = standing (low_bits 8 byte) next x.1 in
    let f : filled bytes c ≡ Ok full =
    filled_now bytes c refl
    ∙ ap
    (λ (r : Result (ℕ × ℕ) BitFault). and_then {A = ℕ × ℕ} {B = Cursor} r
    (λ x. Ok (standing (low_bits 8 x.0) next x.1))) there in
    let first : Bool = byte_bit byte 7 == 1 in
    let taken = sym (bits_left (first ∷ []) (low_bits 7 byte) bytes 0 next x.1)
    ∙ sym (bits_filled 1 bytes c full (omega arith) f (omega arith)) ∙ e in
    let v = same_bit first bit (standing (low_bits 7 byte) next x.1) to taken in
    (x.1, there, ap (λ (b : Bool). b ∷ low_bits 7 byte) v.0, sym v.1)

pub one_bit : (left : List Bool) (bytes : List ℕ) (last next : ℕ) (bit : Bool) (to : Cursor)
    → Takes bytes (standing left last next) (bit ∷ []) to → OneBit bytes left last next bit to
one_bit [] bytes last next bit to e = fresh_bit bytes last next bit to (unit_at bytes next) refl e
one_bit (first ∷ left) bytes last next bit to e =
    let v = same_bit first bit (standing left last next) to
    (sym (bits_left (first ∷ []) left bytes 0 last next) ∙ e) in
    (v.0, sym v.1)

-- no cursor goes back
pub one_on : (left : List Bool) (bytes : List ℕ) (last next : ℕ) (bit : Bool) (to : Cursor)
    → OneBit bytes left last next bit to → (to.skip ≡ 0) × (next ≤ to.next)
one_on [] bytes last next bit to o =
    let end = (unit_is bytes next (byte_at bytes next) o.0 o.1).1 in
    let is = ap (λ (c : Cursor). c.next) o.3 in
    (ap (λ (c : Cursor). c.skip) o.3, omega (arith, end, is))
one_on (first ∷ left) bytes last next bit to o =
    let is = ap (λ (c : Cursor). c.next) o.1 in
    (ap (λ (c : Cursor). c.skip) o.1, omega (arith, is))

-- ---- some bits

pub stands : (bytes : List ℕ) (cursor to : Cursor) (bit : Bool) → cursor.skip ≡ 0
    → Takes bytes cursor (bit ∷ []) to → OneBit bytes cursor.left cursor.last cursor.next bit to
stands bytes cursor to bit skip e =
    one_bit cursor.left bytes cursor.last cursor.next bit to
    (subst
    (λ (k : ℕ). Takes bytes
    (record { left = cursor.left; skip = k; last = cursor.last; next = cursor.next })
    (bit ∷ []) to) skip e)

pub bits_on : (bits : List Bool) (bytes : List ℕ) (cursor to : Cursor) → cursor.skip ≡ 0
    → Takes bytes cursor bits to → (to.skip ≡ 0) × (cursor.next ≤ to.next)
bits_on [] bytes cursor to skip e =
    let v = is_both ([], cursor) ([], to) (sym (takes_none bytes cursor) ∙ e) in
    let next = ap (λ (c : Cursor). c.next) v.1 in
    (sym (ap (λ (c : Cursor). c.skip) v.1) ∙ skip, omega (arith, next))
bits_on (bit ∷ bits) bytes cursor to skip e =
    let s = takes_split bytes cursor to (bit ∷ []) bits e in
    let a = one_on cursor.left bytes cursor.last cursor.next bit s.0
    (stands bytes cursor s.0 bit skip s.1) in
    let b = bits_on bits bytes s.0 to a.0 s.2 in
    (b.0, omega (arith, a.1, b.1))
