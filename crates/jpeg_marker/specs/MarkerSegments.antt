-- Statement: marker segments and the bytes that spell them (ITU-T T.81, B.1.1). Clauses are the standard's.
use Rattle.std.specs.Prelude.{ℕ, ◌+◌, ◌*◌, ◌/◌, ◌%◌, ◌^◌, ◌<◌, Bool, List, [], ◌∷◌, ◌++◌, length, replicate, flat_map, ◌==◌, ◌||◌, nat_le, ◌&&◌, Option, Some, fold, IsTrue}

-- A marker segment: how many further bytes of 0xff fill the place before its marker (B.1.1.2), the
-- marker's code, and what its length counts, without the two bytes of the length (B.1.1.4).
pub record Segment : Type 0 where
  pub fill : ℕ
  pub code : ℕ
  pub body : List ℕ

-- two bytes, the high one first
abbrev pub two_bytes : ℕ → List ℕ
two_bytes n = n / 256 ∷ n % 256 ∷ []

-- the number in the first two bytes, the high one first, and 0 if there are fewer
abbrev pub number_at : List ℕ → ℕ
number_at [] = 0
number_at (high ∷ []) = 0
number_at (high ∷ low ∷ rest) = 256 * high + low

-- a segment as it is written (B.1.1.2, B.1.1.4)
abbrev pub segment_text : Segment → List ℕ
segment_text s = replicate (s.fill + 1) 0xff ++ s.code ∷ two_bytes (length s.body + 2) ++ s.body

-- the start of an image, and the segments (B.2.1)
abbrev pub header_text : List Segment → List ℕ
header_text segments = 0xff ∷ 0xd8 ∷ flat_map segment_text segments

-- frames that aren't baseline, arithmetic coding, and what goes with them: SOF1 to SOF15, JPG and DAC,
-- DNL, DHP and EXP (Table B.1)
abbrev pub is_other_process : ℕ → Bool
is_other_process code =
    (nat_le 0xc1 code && nat_le code 0xc3) || (nat_le 0xc5 code && nat_le code 0xcf) || code == 0xdc
    || code == 0xde || code == 0xdf

-- the codes that a header may have: SOF0, DHT, SOS, DQT, DRI, an application's segment and a comment (Table B.1)
abbrev pub is_known : ℕ → Bool
is_known code =
    code == 0xc0 || code == 0xc4 || code == 0xda || code == 0xdb || code == 0xdd
    || (nat_le 0xe0 code && nat_le code 0xef) || code == 0xfe

-- a segment that has a spelling here
pub record IsWhole (s : Segment) : Type 0 where
  pub known : IsTrue (is_known s.code)
  pub fits : length s.body + 2 < 2 ^ 16

-- the last of a list, after one that was there before, if any
abbrev pub last_of : {A : Type 0} → Option A → List A → Option A
last_of before xs = fold (λ _ x. Some x) before xs
