-- Statement: numbers as bits, and bits as bytes, the highest bit first (ITU-T T.81, F.1.2.3 and C.3).
use Rattle.std.specs.Prelude.{ℕ, zero, suc, ◌+◌, ◌-◌, ◌*◌, ◌%◌, ◌<◌, Bool, List, [], ◌∷◌, ◌++◌, length, flat_map, fold, replicate, ◌==◌, if◌then◌else◌}
use Rattle.std.specs.Int.{bit_at}

-- the k lowest bits of a number, the highest of them first (F.1.2.3)
abbrev pub low_bits : ℕ → ℕ → List Bool
low_bits zero n = []
low_bits (suc k) n = (bit_at n k == 1) ∷ low_bits k n

-- a number that a byte can be (own)
abbrev pub IsByte : ℕ → Type 0
IsByte byte = byte < 256

-- the bits of bytes (C.3)
abbrev pub bits_of : List ℕ → List Bool
bits_of bytes = flat_map (low_bits 8) bytes

-- the number that bits spell (own)
abbrev pub number_of : List Bool → ℕ
number_of bits = fold (λ n bit. 2 * n + (if bit then 1 else 0)) 0 bits

-- the bytes that bits complete, after the bits of a byte begun (F.1.2.3)
abbrev pub bytes_after : List Bool → List Bool → List ℕ
bytes_after begun [] = []
bytes_after begun (bit ∷ bits) =
    if length begun == 7 then number_of (begun ++ bit ∷ []) ∷ bytes_after [] bits
    else bytes_after (begun ++ bit ∷ []) bits

-- the bits that are left of them, of the next byte (own)
abbrev pub begun_after : List Bool → List Bool → List Bool
begun_after begun [] = begun
begun_after begun (bit ∷ bits) =
    if length begun == 7 then begun_after [] bits else begun_after (begun ++ bit ∷ []) bits

-- one bit again and again, up to the end of a byte begun (B.1.1.5 and F.1.2.3: ones; own: either)
abbrev pub padding : List Bool → Bool → List Bool
padding begun bit = replicate ((8 - length begun) % 8) bit

-- a coded byte of 0xff is followed by a zero (B.1.1.5 and F.1.2.3)
abbrev pub stuffed : List ℕ → List ℕ
stuffed [] = []
stuffed (byte ∷ bytes) = byte ∷ (if byte == 255 then 0 ∷ stuffed bytes else stuffed bytes)
