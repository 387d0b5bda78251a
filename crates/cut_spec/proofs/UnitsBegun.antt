-- Bits of a unit begun: those that were taken, and where the bytes that aren't complete begin.
use Rattle.std.proofs.Common.{◌≡◌, ℕ, ◌+◌, ◌<◌, ◌≤◌, ◌≢◌, Bool, true, false, ◌==◌, if◌then◌else◌, List, [], ◌∷◌, ◌++◌, length, Ok, refl, sym, ap, ◌∙◌, subst, arith, append_assoc, length-append}
use Rattle.std.proofs.lemmas.Bool.{eqb-true, false_from_ne_true}
use Rattle.bit_list.specs.Bits.{IsByte, low_bits, number_of, bytes_after, begun_after, stuffed}
use Rattle.bit_list.specs.NumbersOfBits.{length-low_bits, number_again}
use Rattle.bit_list.specs.Units.{Cursor, unit_at}
use Rattle.bit_list.proofs.Stuffing.{unit_bytes, stuffed_first}
use Rattle.scan_spec.proofs.BitsTaken.{Takes, takes_none, takes_split, is_both}
use Rattle.cut_spec.proofs.BitsOn.{unit_length, unit_is, standing, byte_at, OneBit, one_on, stands, bits_on}

-- the bits of the unit at a place that were taken, by those that are left; where none is left, that
-- unit is the next one
abbrev pub BegunBy : List ℕ → ℕ → List Bool → List Bool → ℕ → ℕ → Type 0
BegunBy bytes place begun [] last next = (begun ≡ []) × (next ≡ place)
BegunBy bytes place begun (bit ∷ left) last next =
    (last ≡ place) × (0 < length begun) × (unit_at bytes place ≡ Ok (byte_at bytes place, next))
    × (low_bits 8 (byte_at bytes place) ≡ begun ++ bit ∷ left)

pub record IsBegun (bytes : List ℕ) (place : ℕ) (begun : List Bool) (cursor : Cursor) : Type 0 where
  pub skip : cursor.skip ≡ 0
  pub unit : BegunBy bytes place begun cursor.left cursor.last cursor.next

-- numbers from a place up to another that are bytes
abbrev pub AreBytes : List ℕ → ℕ → ℕ → Type 0
AreBytes bytes from to = (place : ℕ) → from ≤ place → place < to → IsByte (byte_at bytes place)

-- after one bit, by whether it completes a byte
abbrev After : Bool → List ℕ → ℕ → List Bool → Bool → Cursor → Type 0
After true bytes place begun bit to =
    IsBegun bytes (place + length (unit_bytes (number_of (begun ++ bit ∷ [])))) [] to
After false bytes place begun bit to = IsBegun bytes place (begun ++ bit ∷ []) to

first_of_unit : (bytes : List ℕ) (place end : ℕ) (begun : List Bool) (bit : Bool)
    (to : Cursor) → begun ≡ [] → unit_at bytes place ≡ Ok (byte_at bytes place, end)
    → low_bits 8 (byte_at bytes place) ≡ bit ∷ low_bits 7 (byte_at bytes place)
    → to ≡ standing (low_bits 7 (byte_at bytes place)) place end
    → After (length begun == 7) bytes place begun bit to
first_of_unit bytes place end begun bit to none there bits is =
    let at : IsBegun bytes place (bit ∷ [])
    (standing (low_bits 7 (byte_at bytes place)) place end) =
    record { skip = refl; unit = (refl, omega arith, there, bits) } in
    subst (λ (b : List Bool). After (length b == 7) bytes place b bit to) (sym none)
    (subst (λ (c : Cursor). IsBegun bytes place (bit ∷ []) c) (sym is) at)

last_of_unit : (bytes : List ℕ) (place after last next : ℕ) (begun : List Bool) (first bit : Bool)
    (to : Cursor) → AreBytes bytes place after
    → unit_at bytes place ≡ Ok (byte_at bytes place, next)
    → low_bits 8 (byte_at bytes place) ≡ begun ++ first ∷ [] → first ≡ bit
    → to ≡ standing [] last next → to.next ≤ after
    → After (length begun == 7) bytes place begun bit to
last_of_unit bytes place after last next begun first bit to are there bits same is within =
    let byte = byte_at bytes place in
    let end : next ≡ place + unit_length bytes place = (unit_is bytes place byte next there).1 in
    let stop = ap (λ (c : Cursor). c.next) is in
    let small : byte < 256 = are place (omega arith) (omega (arith, end, stop, within)) in
    let whole : number_of (begun ++ bit ∷ []) ≡ byte =
    ap (λ (b : Bool). number_of (begun ++ b ∷ [])) (sym same) ∙ ap number_of (sym bits)
    ∙ number_again 8 byte small in
    let all = ap length bits in
    let sum = length-append begun (first ∷ []) in
    let eight = length-low_bits 8 byte in
    let count : length begun ≡ 7 = omega (arith, all, sum, eight) in
    let seven : (length begun == 7) ≡ true = ap (λ (n : ℕ). n == 7) count in
    let there_now : next ≡ place + length (unit_bytes (number_of (begun ++ bit ∷ []))) =
    end ∙ ap (λ (n : ℕ). place + length (unit_bytes n)) (sym whole) in
    let at : After true bytes place begun bit (standing [] last next) =
    record { skip = refl; unit = (refl, there_now) } in
    subst (λ (t : Bool). After t bytes place begun bit to) (sym seven)
    (subst (λ (c : Cursor). After true bytes place begun bit c) (sym is) at)

within_unit : (bytes : List ℕ) (place last next : ℕ) (begun : List Bool) (first second bit : Bool)
    (left : List Bool) (to : Cursor) → last ≡ place
    → unit_at bytes place ≡ Ok (byte_at bytes place, next)
    → low_bits 8 (byte_at bytes place) ≡ begun ++ first ∷ second ∷ left → first ≡ bit
    → to ≡ standing (second ∷ left) last next → After (length begun == 7) bytes place begun bit to
within_unit bytes place last next begun first second bit left to here there bits same is =
    let byte = byte_at bytes place in
    let all : low_bits 8 byte ≡ (begun ++ bit ∷ []) ++ second ∷ left =
    bits ∙ ap (λ (b : Bool). begun ++ b ∷ second ∷ left) same
    ∙ sym (append_assoc begun (bit ∷ []) (second ∷ left)) in
    let whole = ap length bits in
    let sum = length-append begun (first ∷ second ∷ left) in
    let eight = length-low_bits 8 byte in
    let few : length begun ≢ 7 = λ e. omega (arith, whole, sum, eight, e) in
    let not_seven : (length begun == 7) ≡ false =
    false_from_ne_true (length begun == 7) (λ e. few (eqb-true (length begun) 7 e)) in
    let some : 0 < length (begun ++ bit ∷ []) = let n = length-append begun (bit ∷ []) in
    omega (arith, n) in
    let at : IsBegun bytes place (begun ++ bit ∷ []) (standing (second ∷ left) last next) =
    record { skip = refl; unit = (here, some, there, all) } in
    subst (λ (t : Bool). After t bytes place begun bit to) (sym not_seven)
    (subst (λ (c : Cursor). IsBegun bytes place (begun ++ bit ∷ []) c) (sym is) at)

one_begun : (left : List Bool) (bytes : List ℕ) (place after last next : ℕ) (begun : List Bool)
    (bit : Bool) (to : Cursor) → AreBytes bytes place after
    → BegunBy bytes place begun left last next
    → OneBit bytes left last next bit to → to.next ≤ after
    → After (length begun == 7) bytes place begun bit to
one_begun [] bytes place after last next begun bit to are b o within =
    let p : OneBit bytes [] last place bit to =
    subst (λ (n : ℕ). OneBit bytes [] last n bit to) b.1 o in
    first_of_unit bytes place p.0 begun bit to b.0 p.1 p.2 p.3
one_begun (first ∷ []) bytes place after last next begun bit to are b o within =
    last_of_unit bytes place after last next begun first bit to are b.2 b.3 o.0 o.1 within
one_begun (first ∷ second ∷ left) bytes place after last next begun bit to are b o within =
    within_unit bytes place last next begun first second bit left to b.0 b.2 b.3 o.0 o.1

-- ---- some bits

-- after the first of them
more_begun : (full : Bool) (bytes : List ℕ) (place : ℕ) (begun bits : List Bool) (bit : Bool)
    (mid to : Cursor) → After full bytes place begun bit mid
    → ((from : ℕ) (b : List Bool) → place ≤ from → IsBegun bytes from b mid
    → IsBegun bytes (from + length (stuffed (bytes_after b bits))) (begun_after b bits) to)
    → IsBegun bytes
    (place + length
    (stuffed
    (if full then number_of (begun ++ bit ∷ []) ∷ bytes_after [] bits else bytes_after
    (begun ++ bit ∷ []) bits)))
    (if full then begun_after [] bits else begun_after (begun ++ bit ∷ []) bits) to
more_begun true bytes place begun bits bit mid to at more =
    let byte = number_of (begun ++ bit ∷ []) in
    let rest = bytes_after [] bits in
    let long : place + length (unit_bytes byte) + length (stuffed rest)
    ≡ place + length (stuffed (byte ∷ rest)) =
    let all = ap length (stuffed_first byte rest) in
    let sum = length-append (unit_bytes byte) (stuffed rest) in
    omega (arith, all, sum) in
    subst (λ (n : ℕ). IsBegun bytes n (begun_after [] bits) to) long
    (more (place + length (unit_bytes byte)) [] (omega arith) at)
more_begun false bytes place begun bits bit mid to at more =
    more place (begun ++ bit ∷ []) (omega arith) at

-- the bytes that bits complete, and what they leave of the next one
pub bits_begun : (bits : List Bool) (bytes : List ℕ) (place after : ℕ) (begun : List Bool)
    (cursor to : Cursor) → AreBytes bytes place after → IsBegun bytes place begun cursor
    → Takes bytes cursor bits to → to.next ≤ after
    → IsBegun bytes (place + length (stuffed (bytes_after begun bits))) (begun_after begun bits) to
bits_begun [] bytes place after begun cursor to are at e within =
    let v = is_both ([], cursor) ([], to) (sym (takes_none bytes cursor) ∙ e) in
    let same : place ≡ place + 0 = omega arith in
    subst (λ (n : ℕ). IsBegun bytes n begun to) same
    (subst (λ (c : Cursor). IsBegun bytes place begun c) v.1 at)
bits_begun (bit ∷ bits) bytes place after begun cursor to are at e within =
    let s = takes_split bytes cursor to (bit ∷ []) bits e in
    let o = stands bytes cursor s.0 bit at.skip s.1 in
    let a = one_on cursor.left bytes cursor.last cursor.next bit s.0 o in
    let b = bits_on bits bytes s.0 to a.0 s.2 in
    more_begun (length begun == 7) bytes place begun bits bit s.0 to
    (one_begun cursor.left bytes place after cursor.last cursor.next begun bit s.0 are at.unit
    o (omega (arith, b.1, within)))
    (λ from d least here. bits_begun bits bytes from after d s.0 to
    (λ p l h. are p (omega (arith, l, least)) h) here s.2 within)
