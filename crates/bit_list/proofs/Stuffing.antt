-- Stuffed bytes: joined, read as units, and in one way only.
use Rattle.std.proofs.Common.{◌≡◌, ℕ, ◌+◌, ◌<◌, ◌≤◌, Bool, true, false, ◌==◌, if◌then◌else◌, List, [], ◌∷◌, ◌++◌, length, drop, get_or, Result, Ok, Err, refl, sym, ap, ap₂, ◌∙◌, arith, append_assoc}
use Rattle.std.proofs.lemmas.Bool.{eqb-true, false_from_ne_true}
use Rattle.std.proofs.lemmas.List.{drop_at, drop_all, drop_more}
use Rattle.bit_list.specs.Bits.{stuffed}
use Rattle.bit_list.specs.Units.{unit_of, unit_at}
use Rattle.bit_list.specs.declared.fault.BitFault.{BitFault}
use Rattle.bit_list.specs.declared.fault.BitFault.TheVariants.{Cut, MarkerInScan}

-- a coded byte, and a zero after 0xff
abbrev pub unit_bytes : ℕ → List ℕ
unit_bytes byte = stuffed (byte ∷ [])

-- the first byte and the others
pub stuffed_first : (byte : ℕ) (bytes : List ℕ) → stuffed (byte ∷ bytes) ≡ unit_bytes byte ++ stuffed bytes
stuffed_first byte bytes =
    elim (byte == 255) as (λ t. byte ∷ (if t then 0 ∷ stuffed bytes else stuffed bytes) ≡ (byte ∷ (if t then 0 ∷ [] else [])) ++ stuffed bytes) [
      | true ↦ refl
      | false ↦ refl
    ]

-- bytes that stand end to end
pub stuffed-append : (xs ys : List ℕ) → stuffed (xs ++ ys) ≡ stuffed xs ++ stuffed ys
stuffed-append [] ys = refl
stuffed-append (x ∷ xs) ys =
    stuffed_first x (xs ++ ys) ∙ ap (λ (bs : List ℕ). unit_bytes x ++ bs) (stuffed-append xs ys) ∙ sym (append_assoc (unit_bytes x) (stuffed xs) (stuffed ys))
    ∙ ap (λ (bs : List ℕ). bs ++ stuffed ys) (sym (stuffed_first x xs))

-- what was written with one byte more in prefix
pub one_unit_more : (out : List ℕ) (byte : ℕ) (bytes : List ℕ) → (out ++ unit_bytes byte) ++ stuffed bytes ≡ out ++ stuffed (byte ∷ bytes)
one_unit_more out byte bytes = append_assoc out (unit_bytes byte) (stuffed bytes) ∙ ap (λ (bs : List ℕ). out ++ bs) (sym (stuffed_first byte bytes))

-- a byte other than 0xff is a unit, whatever follows it
plain_unit : (end place byte : ℕ) (rest : List ℕ) → (byte == 255) ≡ false → unit_of end place (byte ∷ rest) ≡ Ok (byte, place + 1)
plain_unit end place byte [] other = rw other refl
plain_unit end place byte (x ∷ rest) other = rw other refl

-- the unit of a coded byte, whatever follows it
pub unit_again : (end place byte : ℕ) (rest : List ℕ) (t : Bool) → (byte == 255) ≡ t
    → unit_of end place ((byte ∷ (if t then 0 ∷ [] else [])) ++ rest) ≡ Ok (byte, place + length (byte ∷ (if t then 0 ∷ [] else [])))
unit_again end place byte rest true full = rw (eqb-true byte 255 full) refl
unit_again end place byte rest false other = plain_unit end place byte rest other

-- the unit at a place where a coded byte stands
pub unit_read : (prefix : List ℕ) (byte : ℕ) (rest : List ℕ)
    → unit_at (prefix ++ (unit_bytes byte ++ rest)) (length prefix) ≡ Ok (byte, length prefix + length (unit_bytes byte))
unfolding unit_at
unit_read prefix byte rest =
    let bytes = prefix ++ (unit_bytes byte ++ rest) in
    ap (unit_of (length bytes) (length prefix)) (drop_at prefix (unit_bytes byte ++ rest) (length prefix) refl)
    ∙ unit_again (length bytes) (length prefix) byte rest (byte == 255) refl

-- two ways to go on after one byte
go_on : (t : Bool) (a b x y : List ℕ) → (if t then 0 ∷ a else a) ++ x ≡ (if t then 0 ∷ b else b) ++ y → a ++ x ≡ b ++ y
go_on true a b x y e = cc
go_on false a b x y e = e

-- as many bytes were stuffed in one way only
pub one_reading : (a b x y : List ℕ) → stuffed a ++ x ≡ stuffed b ++ y → length a ≡ length b → (a ≡ b) × (x ≡ y)
one_reading [] [] x y e h = (refl, e)
one_reading [] (v ∷ b) x y e h = absurd (omega arith)
one_reading (u ∷ a) [] x y e h = absurd (omega arith)
one_reading (u ∷ a) (v ∷ b) x y e h =
    let same : u ≡ v = cc in
    let tails : (if u == 255 then 0 ∷ stuffed a else stuffed a) ++ x ≡ (if v == 255 then 0 ∷ stuffed b else stuffed b) ++ y = cc in
    let now : (if u == 255 then 0 ∷ stuffed a else stuffed a) ++ x ≡ (if u == 255 then 0 ∷ stuffed b else stuffed b) ++ y =
    tails ∙ ap (λ (w : ℕ). (if w == 255 then 0 ∷ stuffed b else stuffed b) ++ y) (sym same) in
    let more = one_reading a b x y (go_on (u == 255) (stuffed a) (stuffed b) x y now) (omega arith) in
    (ap₂ (λ (w : ℕ) (bs : List ℕ). w ∷ bs) same more.0, more.1)

-- a coded byte takes two bytes at most
pub length-unit_bytes : (byte : ℕ) → length (unit_bytes byte) ≤ 2
length-unit_bytes byte = elim (byte == 255) as (λ t. length (byte ∷ (if t then 0 ∷ [] else [])) ≤ 2) [ true ↦ omega arith | false ↦ omega arith ]

-- past the end
pub unit_past : (bytes : List ℕ) (place : ℕ) → length bytes ≤ place → unit_at bytes place ≡ Err (Cut (length bytes))
unfolding unit_at
unit_past bytes place h = ap (unit_of (length bytes) place) (drop_all place bytes h)

-- a byte other than 0xff
pub unit_plain : (bytes : List ℕ) (place : ℕ) → place < length bytes → ¬ (get_or bytes place 0 ≡ 255) → unit_at bytes place ≡ Ok (get_or bytes place 0, place + 1)
unfolding unit_at
unit_plain bytes place h other =
    ap (unit_of (length bytes) place) (drop_more bytes place 0 h)
    ∙ plain_unit (length bytes) place (get_or bytes place 0) (drop (place + 1) bytes) (false_from_ne_true _ (λ full. other (eqb-true _ 255 full)))

-- 0xff as the last byte
pub unit_last : (bytes : List ℕ) (place : ℕ) → place + 1 ≡ length bytes → get_or bytes place 0 ≡ 255 → unit_at bytes place ≡ Err (Cut (length bytes))
unfolding unit_at
unit_last bytes place h full =
    ap (unit_of (length bytes) place) (drop_more bytes place 0 (omega arith) ∙ ap₂ (λ (b : ℕ) (bs : List ℕ). b ∷ bs) full (drop_all (place + 1) bytes (omega arith)))

-- 0xff and another byte
two_bytes : (bytes : List ℕ) (place : ℕ) → place + 1 < length bytes → get_or bytes place 0 ≡ 255
    → drop place bytes ≡ 255 ∷ get_or bytes (place + 1) 0 ∷ drop (place + 1 + 1) bytes
two_bytes bytes place h full =
    drop_more bytes place 0 (omega arith) ∙ ap₂ (λ (b : ℕ) (bs : List ℕ). b ∷ bs) full (drop_more bytes (place + 1) 0 h)

pub unit_marker : (bytes : List ℕ) (place : ℕ) → place + 1 < length bytes → get_or bytes place 0 ≡ 255 → ¬ (get_or bytes (place + 1) 0 ≡ 0)
    → unit_at bytes place ≡ Err (MarkerInScan place)
unfolding unit_at
unit_marker bytes place h full other =
    ap (unit_of (length bytes) place) (two_bytes bytes place h full)
    ∙ ap (λ (t : Bool). let r : Result (ℕ × ℕ) BitFault = if t then Ok (255, place + 2) else Err (MarkerInScan place) in r) (false_from_ne_true (get_or bytes (place + 1) 0 == 0) (λ none. other (eqb-true _ 0 none)))

pub unit_stuffed : (bytes : List ℕ) (place : ℕ) → place + 1 < length bytes → get_or bytes place 0 ≡ 255 → get_or bytes (place + 1) 0 ≡ 0
    → unit_at bytes place ≡ Ok (255, place + 2)
unfolding unit_at
unit_stuffed bytes place h full none =
    ap (unit_of (length bytes) place) (two_bytes bytes place h full ∙ ap (λ (b : ℕ). 255 ∷ b ∷ drop (place + 1 + 1) bytes) none)
