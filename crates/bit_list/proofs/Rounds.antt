-- What was put is taken again.
use Rattle.std.proofs.Common.{◌≡◌, ℕ, zero, suc, ◌+◌, ◌*◌, ◌/◌, ◌%◌, Bool, List, [], ◌∷◌, ◌++◌, length, drop, Result, Ok, refl, sym, ap, ap₂, ◌∙◌, subst, arith, append_assoc, length-append}
use Rattle.bit_list.specs.Bits.{low_bits, number_of, bytes_after, stuffed}
use Rattle.bit_list.specs.NumbersOfBits.{length-low_bits}
use Rattle.bit_list.specs.Units.{Cursor, and_then, starting, unit_at, fetched, filled, bits_at}
use Rattle.bit_list.specs.BitLaws.{StandsAt, IsTakenAgain}
use Rattle.bit_list.specs.declared.fault.BitFault.{BitFault}
use Rattle.bit_list.proofs.LowBits.{bits_again}
use Rattle.bit_list.proofs.Stuffing.{unit_bytes, unit_read, stuffed_first}
use Rattle.bit_list.proofs.Cursors.{more_taken, filled_now, in_parts, then_bits, after_bits}

-- the bits of one coded byte
byte_taken : (prefix : List ℕ) (byte : ℕ) (rest : List ℕ) (cursor : Cursor) → StandsAt (length prefix) cursor
    → (after : Cursor) × (bits_at 8 (prefix ++ (unit_bytes byte ++ rest)) cursor ≡ Ok (low_bits 8 byte, after))
    × StandsAt (length (prefix ++ unit_bytes byte)) after
unfolding bits_at
byte_taken prefix byte rest cursor stands =
    let bytes = prefix ++ (unit_bytes byte ++ rest) in
    let end = length prefix + length (unit_bytes byte) in
    let full : Cursor = record { left = low_bits 8 byte; skip = 0; last = cursor.next; next = end } in
    let unit : unit_at bytes cursor.next ≡ Ok (byte, end) = ap (unit_at bytes) stands.next ∙ unit_read prefix byte rest in
    let fetch : fetched bytes cursor ≡ Ok full =
    ap₂ (λ (r : Result (ℕ × ℕ) BitFault) (skip : ℕ). and_then r (λ u. Ok (record { left = drop skip (low_bits 8 u.0); skip = 0; last = cursor.next; next = u.1 })))
    unit stands.skip in
    let fill : filled bytes cursor ≡ Ok full = filled_now bytes cursor (ap length stands.left) ∙ fetch in (
      record full { left = [] },
      more_taken 0 8 bytes cursor cursor full (low_bits 8 byte) [] [] refl fill (omega arith) (length-low_bits 8 byte) refl,
      record { left = refl; skip = refl; next = sym (length-append prefix (unit_bytes byte)) },
    )

-- what is taken of bits from a place on
abbrev Taken : List Bool → List ℕ → List ℕ → Cursor → Type 0
Taken bits prefix rest from =
    (cursor : Cursor) × (bits_at (length bits) (prefix ++ (stuffed (bytes_after [] bits) ++ rest)) from ≡ Ok (bits, cursor))
    × StandsAt (length prefix + length (stuffed (bytes_after [] bits))) cursor

-- eight bits in prefix of bits that are taken
eight_more : (eight bits : List Bool) (byte : ℕ) (coded prefix rest : List ℕ) (from after cursor : Cursor)
    → bits_at 8 (prefix ++ (unit_bytes byte ++ (stuffed coded ++ rest))) from ≡ Ok (eight, after)
    → bits_at (length bits) ((prefix ++ unit_bytes byte) ++ (stuffed coded ++ rest)) after ≡ Ok (bits, cursor)
    → bits_at (8 + length bits) (prefix ++ (stuffed (byte ∷ coded) ++ rest)) from ≡ Ok (eight ++ bits, cursor)
eight_more eight bits byte coded prefix rest from after cursor one more =
    let unit = unit_bytes byte in
    let tail = stuffed coded ++ rest in
    let bytes = prefix ++ (unit ++ tail) in
    let same : prefix ++ (stuffed (byte ∷ coded) ++ rest) ≡ bytes =
    ap (λ (bs : List ℕ). prefix ++ (bs ++ rest)) (stuffed_first byte coded) ∙ ap (λ (bs : List ℕ). prefix ++ bs) (append_assoc unit (stuffed coded) rest) in
    let later : bits_at (length bits) bytes after ≡ Ok (bits, cursor) =
    ap (λ (bs : List ℕ). bits_at (length bits) bs after) (sym (append_assoc prefix unit tail)) ∙ more in
    ap (λ (bs : List ℕ). bits_at (8 + length bits) bs from) same ∙ in_parts 8 (length bits) bytes from
    ∙ ap (λ (r : Result (List Bool × Cursor) BitFault). and_then r (then_bits (length bits) bytes)) one
    ∙ ap (after_bits eight) later

-- where the bytes end
end_place : (byte : ℕ) (coded prefix : List ℕ) → length (prefix ++ unit_bytes byte) + length (stuffed coded) ≡ length prefix + length (stuffed (byte ∷ coded))
end_place byte coded prefix =
    let whole = ap length (stuffed_first byte coded) ∙ length-append (unit_bytes byte) (stuffed coded) in
    omega (arith, whole, length-append prefix (unit_bytes byte))

-- whole bytes are taken again
wholes_again : (n : ℕ) (bits : List Bool) (prefix rest : List ℕ) (from : Cursor) → length bits ≡ 8 * n → StandsAt (length prefix) from → Taken bits prefix rest from
unfolding bits_at
wholes_again zero [] prefix rest from whole stands =
    (from, refl, record { left = stands.left; skip = stands.skip; next = omega (arith, stands.next) })
wholes_again zero (a ∷ bits) prefix rest from whole stands = absurd (omega arith)
wholes_again (suc n) (a ∷ b ∷ c ∷ d ∷ e ∷ f ∷ g ∷ h ∷ bits) prefix rest from whole stands =
    let eight = a ∷ b ∷ c ∷ d ∷ e ∷ f ∷ g ∷ h ∷ [] in
    let byte = number_of eight in
    let coded = bytes_after [] bits in
    let (after, one, then) = byte_taken prefix byte (stuffed coded ++ rest) from stands in
    let (cursor, more, last) = wholes_again n bits (prefix ++ unit_bytes byte) rest after (omega arith) then in
    let first = one ∙ ap (λ (bs : List Bool). Ok (bs, after)) (bits_again eight) in
    let many : length (a ∷ b ∷ c ∷ d ∷ e ∷ f ∷ g ∷ h ∷ bits) ≡ 8 + length bits = omega arith in (
      cursor,
      ap (λ (k : ℕ). bits_at k (prefix ++ (stuffed (byte ∷ coded) ++ rest)) from) many ∙ eight_more eight bits byte coded prefix rest from after cursor first more,
      subst (λ (p : ℕ). StandsAt p cursor) (end_place byte coded prefix) last,
    )
wholes_again (suc n) bits prefix rest from whole stands = absurd (omega arith)

-- so is what was put, among other bytes
pub taken_again : (bits : List Bool) (prefix rest : List ℕ) → length bits % 8 ≡ 0 → IsTakenAgain bits prefix rest
taken_again bits prefix rest whole =
    wholes_again (length bits / 8) bits prefix rest (starting (length prefix) 0) (omega arith) (record { left = refl; skip = refl; next = refl })
