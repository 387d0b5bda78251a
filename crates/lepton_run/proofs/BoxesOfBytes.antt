-- The bytes of a container's fields are bytes.
use Rattle.std.proofs.Common.{ℕ, zero, suc, ◌+◌, Bool, true, false, if◌then◌else◌, List, [], ◌∷◌, ◌++◌, length, flat_map, ℤ, Option, Some, None, arith}
use Rattle.std.specs.Prelude.{slice_index}
use Rattle.std.specs.List.{AllByRecursion}
use Rattle.std.specs.Int.{w16, byte_at, cast_unsigned}
use Rattle.byteorder.specs.Endian.{big_bytes}
use Rattle.huff_table.proofs.Pairs.{all-append}
use Rattle.bit_list.specs.Bits.{IsByte}
use Rattle.handover.specs.Handovers.{HandoverFields, IsHandover}
use Rattle.handover.specs.HandoverBytes.{handover_bytes}
use Rattle.scan_spec.specs.Pads.{PadBits, Same, Listed}
use Rattle.box_format.specs.Parts.{chunk_bytes, length_said, pad_byte, place_bytes, records}
use Rattle.box_format.specs.declared.chunk.Chunk.{Chunk}

-- the bytes of a number
byte_small : (k n : ℕ) → IsByte (byte_at k n)
byte_small zero n = omega arith
byte_small (suc k) n = omega arith

pub number_are : (k n : ℕ) → AllByRecursion IsByte (big_bytes k n)
number_are zero n = tt
number_are (suc k) n = (byte_small k n, number_are k n)

-- lists of bytes, joined
joined_are : {A : Type 0} (f : A → List ℕ) (xs : List A)
    → ((x : A) → AllByRecursion IsByte (f x)) → AllByRecursion IsByte (flat_map f xs)
joined_are f [] each = tt
joined_are f (x ∷ xs) each =
    all-append IsByte (f x) (flat_map f xs) (each x) (joined_are f xs each)

pub streams_are : (xs : List (List ℕ)) → AllByRecursion (AllByRecursion IsByte) xs
    → AllByRecursion IsByte (flat_map (λ stream. stream) xs)
streams_are [] all = tt
streams_are (x ∷ xs) all =
    all-append IsByte x (flat_map (λ stream. stream) xs) all.0 (streams_are xs all.1)

handover_are : (h : HandoverFields) → IsHandover h → AllByRecursion IsByte (handover_bytes h)
unfolding handover_bytes
handover_are h is =
    let few = is.few in
    let number : IsByte h.bits = omega (arith, few) in
    let preds = flat_map (λ (dc : ℤ). big_bytes 2 (cast_unsigned w16 dc)) h.preds in
    let rest : AllByRecursion IsByte (preds ++ big_bytes 4 h.restarts) =
    all-append IsByte preds (big_bytes 4 h.restarts)
    (joined_are (λ (dc : ℤ). big_bytes 2 (cast_unsigned w16 dc)) h.preds
    (λ dc. number_are 2 (cast_unsigned w16 dc)))
    (number_are 4 h.restarts) in
    (is.byte, (number, rest))

pub place_are : (places : Option (List ℕ)) (i : ℕ) → AllByRecursion IsByte (place_bytes places i)
place_are None i = tt
place_are (Some places) i = number_are 8 (slice_index places i)

pub records_are : (places : Option (List ℕ)) (i : ℕ) (hs : List HandoverFields) (ss : List (List ℕ))
    → AllByRecursion IsHandover hs → AllByRecursion IsByte (records places i hs ss)
records_are places i [] ss each = tt
records_are places i (h ∷ hs) [] each = tt
records_are places i (h ∷ hs) (s ∷ ss) each =
    let long = big_bytes 8 (length s) in
    let place = place_bytes places i in
    all-append IsByte (handover_bytes h ++ (long ++ place)) (records places (i + 1) hs ss)
    (all-append IsByte (handover_bytes h) (long ++ place) (handover_are h each.0)
    (all-append IsByte long place (number_are 8 (length s)) (place_are places i)))
    (records_are places (i + 1) hs ss each.1)

bit_is : (pad : Bool) → IsByte (if pad then 1 else 0)
bit_is true = omega arith
bit_is false = omega arith

pub pad_is : (pads : PadBits) → IsByte (pad_byte pads)
pad_is (Same pad) = bit_is pad
pad_is (Listed bytes) = omega arith

pub named_are : (said : Bool) (bytes : List ℕ) → AllByRecursion IsByte (length_said said bytes)
named_are true bytes = number_are 4 (length bytes)
named_are false bytes = tt

-- two lists of bytes
pub both_are : (xs ys : List ℕ) → AllByRecursion IsByte xs → AllByRecursion IsByte ys
    → AllByRecursion IsByte (xs ++ ys)
both_are xs ys a b = all-append IsByte xs ys a b

pub chunk_are : (chunk : Option Chunk) → AllByRecursion IsByte (chunk_bytes chunk)
chunk_are None = tt
chunk_are (Some c) =
    let to = big_bytes 4 c.to in
    let rows = both_are (big_bytes 4 c.from) to (number_are 4 c.from) (number_are 4 c.to) in
    let skip = both_are (big_bytes 8 c.skip) (big_bytes 4 c.from ++ to) (number_are 8 c.skip) rows in
    let length = both_are (big_bytes 8 c.length) (big_bytes 8 c.skip ++ (big_bytes 4 c.from ++ to))
    (number_are 8 c.length) skip in
    both_are (big_bytes 8 c.place) (big_bytes 8 c.length ++ (big_bytes 8 c.skip ++ (big_bytes 4 c.from ++ to)))
    (number_are 8 c.place) length
