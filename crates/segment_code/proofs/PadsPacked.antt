-- Pad bits packed into bytes one by one, and their list.
use Rattle.std.proofs.Common.{◌≡◌, ℕ, ◌+◌, ◌-◌, ◌*◌, ◌%◌, ◌^◌, ◌<◌, ◌≤◌, Bool, true, false, if◌then◌else◌, List, [], ◌∷◌, ◌++◌, length, replicate, refl, ap, ap₂, ◌∙◌, sym, arith, append-nil, append_assoc}
use Rattle.std.specs.List.{AllByRecursion}
use Rattle.std.proofs.lemmas.Grind.{flat_map-append}
use Rattle.std.proofs.lemmas.Nat.{mul-add-lt, pow-add, pow_pos}
use Rattle.bit_list.specs.Bits.{IsByte, bits_of, begun_after, bytes_after, low_bits, padding}
use Rattle.bit_list.specs.NumbersOfBits.{length-low_bits, mod_small}
use Rattle.bit_list.proofs.LowBits.{low_bits-join}
use Rattle.bit_list.proofs.Machine.{zeros_are}
use Rattle.bit_list.proofs.Wholes.{all_begun, begun_cut, bytes_after-bits_of}
use Rattle.huff_table.proofs.Pairs.{all-append}
use Rattle.scan_spec.specs.Pads.{pad_list}

-- a bit as a number
abbrev pub number_of_bit : Bool → ℕ
number_of_bit bit = if bit then 1 else 0

below_two : (bit : Bool) → number_of_bit bit < 2
below_two true = omega arith
below_two false = omega arith

one_bit : (bit : Bool) → low_bits 1 (number_of_bit bit) ≡ bit ∷ []
one_bit true = refl
one_bit false = refl

-- a bit after those of a number
pub bit_after : (count number : ℕ) (bit : Bool)
    → low_bits (count + 1) (number * 2 + number_of_bit bit) ≡ low_bits count number ++ bit ∷ []
bit_after count number bit =
    low_bits-join count 1 number (number_of_bit bit) (below_two bit)
    ∙ ap (λ (l : List Bool). low_bits count number ++ l) (one_bit bit)

-- a byte more
pub byte_more : (bytes : List ℕ) (byte : ℕ)
    → bits_of (bytes ++ byte ∷ []) ≡ bits_of bytes ++ low_bits 8 byte
byte_more bytes byte =
    flat_map-append (low_bits 8) bytes (byte ∷ [])
    ∙ ap (λ (l : List Bool). bits_of bytes ++ l) (append-nil (low_bits 8 byte))

pub bytes_more : (bytes : List ℕ) (byte : ℕ) → AllByRecursion IsByte bytes → byte < 256
    → AllByRecursion IsByte (bytes ++ byte ∷ [])
bytes_more bytes byte are below = all-append IsByte bytes (byte ∷ []) are (below, tt)

-- a bit more fills a byte, or doesn't
pub byte_filled : (bytes : List ℕ) (count number : ℕ) (bit : Bool) → count ≡ 7
    → bits_of (bytes ++ (number * 2 + number_of_bit bit) ∷ []) ++ []
    ≡ (bits_of bytes ++ low_bits count number) ++ bit ∷ []
byte_filled bytes count number bit full =
    append-nil (bits_of (bytes ++ (number * 2 + number_of_bit bit) ∷ []))
    ∙ byte_more bytes (number * 2 + number_of_bit bit)
    ∙ ap (λ (l : List Bool). bits_of bytes ++ l) (bit_after 7 number bit)
    ∙ ap (λ (n : ℕ). bits_of bytes ++ (low_bits n number ++ bit ∷ [])) (sym full)
    ∙ sym (append_assoc (bits_of bytes) (low_bits count number) (bit ∷ []))

pub bit_added : (bytes : List ℕ) (count number : ℕ) (bit : Bool)
    → bits_of bytes ++ low_bits (count + 1) (number * 2 + number_of_bit bit)
    ≡ (bits_of bytes ++ low_bits count number) ++ bit ∷ []
bit_added bytes count number bit =
    ap (λ (l : List Bool). bits_of bytes ++ l) (bit_after count number bit)
    ∙ sym (append_assoc (bits_of bytes) (low_bits count number) (bit ∷ []))

-- whole bytes leave no byte begun
whole_bytes : (bytes : List ℕ) → begun_after [] (bits_of bytes) ≡ []
whole_bytes [] = refl
whole_bytes (byte ∷ bytes) =
    begun_cut [] (low_bits 8 byte) (bits_of bytes) ∙ whole_bytes bytes

-- the list of whole bytes, and with bits after them
pub whole_list : (bytes : List ℕ) → AllByRecursion IsByte bytes → bytes ≡ pad_list (bits_of bytes)
whole_list bytes are =
    sym (bytes_after-bits_of bytes are)
    ∙ ap (bytes_after []) (sym (append-nil (bits_of bytes))
    ∙ ap (λ (b : List Bool). bits_of bytes ++ padding b false) (sym (whole_bytes bytes)))

byte_fits : (number count : ℕ) → number < 2 ^ count → count ≤ 7 → number * 2 ^ (8 - count) < 256
byte_fits number count below few =
    let free = 8 - count in
    let under = mul-add-lt number (2 ^ free) 0 (2 ^ count) below (pow_pos free) in
    let eight : count + free ≡ 8 = omega arith in
    let whole : 2 ^ count * 2 ^ free ≡ 256 =
    sym (pow-add 2 count free) ∙ ap (λ (n : ℕ). 2 ^ n) eight in
    omega (arith, under, whole)

pub begun_list : (bytes : List ℕ) (number count : ℕ) → AllByRecursion IsByte bytes
    → number < 2 ^ count → 0 < count → count ≤ 7
    → bytes ++ (number * 2 ^ (8 - count) % 256) ∷ []
    ≡ pad_list (bits_of bytes ++ low_bits count number)
begun_list bytes number count are below some few =
    let free = 8 - count in
    let fits = byte_fits number count below few in
    let byte = number * 2 ^ free in
    let begun = low_bits count number in
    let size = length-low_bits count number in
    let left : begun_after [] (bits_of bytes ++ begun) ≡ begun =
    begun_cut [] (bits_of bytes) begun
    ∙ ap (λ (b : List Bool). begun_after b begun) (whole_bytes bytes)
    ∙ all_begun [] begun (omega (arith, size)) in
    let many : (8 - length begun) % 8 ≡ free = omega (arith, size) in
    let eight : count + free ≡ 8 = omega arith in
    let room = pow_pos free in
    let sum : number * 2 ^ free + 0 ≡ byte = omega arith in
    let bits : low_bits 8 byte ≡ begun ++ replicate free false =
    ap₂ low_bits (sym eight) (sym sum) ∙ low_bits-join count free number 0 room
    ∙ ap (λ (l : List Bool). begun ++ l) (zeros_are free) in
    let all : bits_of (bytes ++ byte ∷ []) ≡ (bits_of bytes ++ begun)
    ++ padding (begun_after [] (bits_of bytes ++ begun)) false =
    byte_more bytes byte ∙ ap (λ (l : List Bool). bits_of bytes ++ l) bits
    ∙ sym (append_assoc (bits_of bytes) begun (replicate free false))
    ∙ ap (λ (l : List Bool). (bits_of bytes ++ begun) ++ l)
    (ap (λ (n : ℕ). replicate n false) (sym many)
    ∙ ap (λ (b : List Bool). padding b false) (sym left)) in
    ap (λ (n : ℕ). bytes ++ n ∷ []) (mod_small 8 byte fits)
    ∙ sym (bytes_after-bits_of (bytes ++ byte ∷ []) (bytes_more bytes byte are fits))
    ∙ ap (bytes_after []) all
