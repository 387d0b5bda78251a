-- Bits at a cursor: in parts, within a unit, and at a fault.
use Rattle.std.proofs.Common.{◌≡◌, ℕ, zero, suc, ◌+◌, ◌<◌, Bool, false, ◌==◌, if◌then◌else◌, List, [], ◌∷◌, ◌++◌, length, drop, Result, Ok, Err, refl, sym, ap, ◌∙◌, arith, zero-add, length-append}
use Rattle.std.specs.Prelude.{slice_index_or}
use Rattle.std.proofs.lemmas.Bool.{eqb-true, false_from_ne_true}
use Rattle.bit_list.specs.Units.{Cursor, and_then, fetched, filled, bit_at, bits_at}
use Rattle.bit_list.specs.BitLaws.{IsTakenInParts}
use Rattle.bit_list.specs.declared.fault.BitFault.{BitFault}

-- bits and the cursor after them
abbrev Read : Type 0
Read = Result (List Bool × Cursor) BitFault

-- some bits in prefix
abbrev pub after_bits : List Bool → Read → Read
after_bits prefix r = and_then {A = List Bool × Cursor} {B = List Bool × Cursor} r (λ more. Ok (prefix ++ more.0, more.1))

-- some more bits after some
abbrev pub then_bits : ℕ → List ℕ → List Bool × Cursor → Read
then_bits n bytes prefix = after_bits prefix.0 (bits_at n bytes prefix.1)

-- one bit in prefix
abbrev pub after_bit : Bool → Read → Read
after_bit bit r = and_then {A = List Bool × Cursor} {B = List Bool × Cursor} r (λ more. Ok (bit ∷ more.0, more.1))

-- nothing in prefix changes nothing
nothing_before : (r : Read) → r ≡ after_bits [] r
nothing_before (Ok x) = refl
nothing_before (Err e) = refl

-- one bit in prefix of some and of some more
both_before : (bit : Bool) (prefix : List Bool) (r : Read) → after_bit bit (after_bits prefix r) ≡ after_bits (bit ∷ prefix) r
both_before bit prefix (Ok x) = refl
both_before bit prefix (Err e) = refl

bit_before : (n : ℕ) (bytes : List ℕ) (bit : Bool) (r : Read) → after_bit bit (and_then r (then_bits n bytes)) ≡ and_then (after_bit bit r) (then_bits n bytes)
bit_before n bytes bit (Err e) = refl
bit_before n bytes bit (Ok x) = both_before bit x.0 (bits_at n bytes x.1)

-- so it is after a first bit, or at a fault
bits_after : (m n : ℕ) (bytes : List ℕ) (first : Result (Bool × Cursor) BitFault)
    → ((cursor : Cursor) → bits_at (m + n) bytes cursor ≡ and_then (bits_at m bytes cursor) (then_bits n bytes))
    → and_then first (λ one. after_bit one.0 (bits_at (m + n) bytes one.1))
    ≡ and_then (and_then first (λ one. after_bit one.0 (bits_at m bytes one.1))) (then_bits n bytes)
bits_after m n bytes (Err e) h = refl
bits_after m n bytes (Ok one) h =
    ap (after_bit one.0) (h one.1) ∙ bit_before n bytes one.0 (bits_at m bytes one.1)

-- to take some bits is to take the first of them, and then the others
pub in_parts : (m n : ℕ) (bytes : List ℕ) (cursor : Cursor) → IsTakenInParts m n bytes cursor
unfolding bits_at
in_parts zero n bytes cursor = rw zero-add (nothing_before (bits_at n bytes cursor))
in_parts (suc m) n bytes cursor =
    let e : suc m + n ≡ suc (m + n) = omega arith in
    rw e (bits_after m n bytes (bit_at bytes cursor) (in_parts m n bytes))

-- a cursor with bits left
left_some : (n : ℕ) → 0 < n → (n == 0) ≡ false
left_some n h = false_from_ne_true _ (λ none. omega (arith, eqb-true n 0 none))

pub filled_already : (bytes : List ℕ) (cursor : Cursor) → 0 < length cursor.left → filled bytes cursor ≡ Ok cursor
unfolding filled
filled_already bytes cursor h = ap (λ (t : Bool). if t then fetched bytes cursor else Ok cursor) (left_some (length cursor.left) h)

pub filled_now : (bytes : List ℕ) (cursor : Cursor) → length cursor.left ≡ 0 → filled bytes cursor ≡ fetched bytes cursor
unfolding filled
filled_now bytes cursor h = ap (λ (n : ℕ). if n == 0 then fetched bytes cursor else Ok cursor) h

-- the first bit of a cursor with bits left, and the cursor after it
abbrev first_of : Result Cursor BitFault → Result (Bool × Cursor) BitFault
first_of r = and_then {A = Cursor} {B = Bool × Cursor} r (λ at. Ok (slice_index_or at.left 0 false, record at { left = drop 1 at.left }))

-- the first bit that is left
pub bit_left : (x : Bool) (xs : List Bool) (bytes : List ℕ) (skip last next : ℕ)
    → bit_at bytes (record { left = x ∷ xs; skip = skip; last = last; next = next }) ≡ Ok (x, record { left = xs; skip = skip; last = last; next = next })
unfolding bit_at
bit_left x xs bytes skip last next =
    let cursor : Cursor = record { left = x ∷ xs; skip = skip; last = last; next = next } in
    ap first_of (filled_already bytes cursor (omega arith))

-- the first bits that are left
pub bits_left : (xs ys : List Bool) (bytes : List ℕ) (skip last next : ℕ)
    → bits_at (length xs) bytes (record { left = xs ++ ys; skip = skip; last = last; next = next })
    ≡ Ok (xs, record { left = ys; skip = skip; last = last; next = next })
unfolding bits_at
bits_left [] ys bytes skip last next = refl
bits_left (x ∷ xs) ys bytes skip last next =
    ap (λ (r : Result (Bool × Cursor) BitFault). and_then r (λ one. after_bit one.0 (bits_at (length xs) bytes one.1))) (bit_left x (xs ++ ys) bytes skip last next)
    ∙ ap (after_bit x) (bits_left xs ys bytes skip last next)

-- the bits after a unit was fetched are the bits before
pub bit_filled : (bytes : List ℕ) (cursor full : Cursor) → filled bytes cursor ≡ Ok full → 0 < length full.left → bit_at bytes cursor ≡ bit_at bytes full
unfolding bit_at
bit_filled bytes cursor full e h =
    ap first_of (e ∙ sym (filled_already bytes full h))

pub bits_filled : (n : ℕ) (bytes : List ℕ) (cursor full : Cursor) → 0 < n → filled bytes cursor ≡ Ok full → 0 < length full.left
    → bits_at n bytes cursor ≡ bits_at n bytes full
unfolding bits_at
bits_filled zero bytes cursor full some e h = absurd (omega arith)
bits_filled (suc n) bytes cursor full some e h =
    ap (λ (r : Result (Bool × Cursor) BitFault). and_then r (λ first. after_bit first.0 (bits_at n bytes first.1)))
    (bit_filled bytes cursor full e h)

-- a fault at the unit is a fault at its bits
pub bit_fault : (bytes : List ℕ) (cursor : Cursor) (fault : BitFault) → filled bytes cursor ≡ Err fault → bit_at bytes cursor ≡ Err fault
unfolding bit_at
bit_fault bytes cursor fault e =
    ap first_of e

pub bits_fault : (n : ℕ) (bytes : List ℕ) (cursor : Cursor) (fault : BitFault) → 0 < n → filled bytes cursor ≡ Err fault → bits_at n bytes cursor ≡ Err fault
unfolding bits_at
bits_fault zero bytes cursor fault some e = absurd (omega arith)
bits_fault (suc n) bytes cursor fault some e =
    ap (λ (r : Result (Bool × Cursor) BitFault). and_then r (λ first. after_bit first.0 (bits_at n bytes first.1)))
    (bit_fault bytes cursor fault e)

-- bits of a unit after bits that were taken
pub more_taken : (m k : ℕ) (bytes : List ℕ) (from at full : Cursor) (xs ys zs : List Bool) → bits_at m bytes from ≡ Ok (zs, at)
    → filled bytes at ≡ Ok full → 0 < k → length xs ≡ k → full.left ≡ xs ++ ys → bits_at (m + k) bytes from ≡ Ok (zs ++ xs, record full { left = ys })
more_taken m k bytes from at full xs ys zs taken unit some size split =
    let len = length-append xs ys in
    let many : length full.left ≡ length xs + length ys = ap length split ∙ len in
    let here : bits_at (length xs) bytes full ≡ Ok (xs, record full { left = ys }) =
    ap (λ (l : List Bool). bits_at (length xs) bytes (record full { left = l })) split ∙ bits_left xs ys bytes full.skip full.last full.next in
    let prefix : bits_at k bytes at ≡ Ok (xs, record full { left = ys }) =
    bits_filled k bytes at full some unit (omega arith) ∙ ap (λ (n : ℕ). bits_at n bytes full) (sym size) ∙ here in
    in_parts m k bytes from ∙ ap (λ (r : Read). and_then r (then_bits k bytes)) taken
    ∙ ap (after_bits zs) prefix

-- a fault after bits that were taken
pub fault_after : (m k : ℕ) (bytes : List ℕ) (from at : Cursor) (zs : List Bool) (fault : BitFault) → bits_at m bytes from ≡ Ok (zs, at)
    → filled bytes at ≡ Err fault → 0 < k → bits_at (m + k) bytes from ≡ Err fault
fault_after m k bytes from at zs fault taken unit some =
    in_parts m k bytes from ∙ ap (λ (r : Read). and_then r (then_bits k bytes)) taken
    ∙ ap (after_bits zs) (bits_fault k bytes at fault some unit)
