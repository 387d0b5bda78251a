-- Statement: what a symbol of AC coefficients says, what pad bits come to, where a restart marker ends, and the
-- refusals of bits and code words that aren't there (ITU-T T.81, E.1.4, F.1.2.3, F.2.2.2; docs/JPEG.md, Scans).
use Rattle.std.specs.Prelude.{ℕ, ◌+◌, ◌/◌, ◌%◌, Bool, true, false, ◌&&◌, ◌==◌, nat_lt, nat_le, if◌then◌else◌, List, [], ◌∷◌, length, drop, Option, Some, None, Result, Ok, Err}
use Rattle.bit_list.specs.declared.fault.BitFault.{BitFault}
use Rattle.bit_list.specs.declared.fault.BitFault.TheVariants.{Cut, MarkerInScan}
use Rattle.huff_table.specs.declared.fault.CodeFault.{CodeFault}
use Rattle.huff_table.specs.declared.fault.CodeFault.TheVariants.{Bits, NoWord}
use Rattle.scan_spec.specs.declared.refusal.ScanRefusal.{ScanRefusal}
use Rattle.scan_spec.specs.declared.refusal.ScanRefusal.TheVariants as refusals

-- the refusal of a bit that isn't there (own)
abbrev pub bits_refusal : BitFault → ScanRefusal
bits_refusal (Cut place) = refusals.ScanCut place
bits_refusal (MarkerInScan place) = refusals.MarkerInScan place

-- the refusal of a code word that isn't there (own)
abbrev pub code_refusal : CodeFault → ScanRefusal
code_refusal (Bits fault) = bits_refusal fault
code_refusal (NoWord place) = refusals.CodeBad place

-- what a symbol says if `left` coefficients are left (F.2.2.2, Figure F.13): a value of a category after some zeros,
-- sixteen zeros, the end of the block; or it can't be there: its coefficients pass the last one, the end is after
-- sixteen zeros (own), or no block has the symbol
pub data Symbol : Type 0 where
  Value : ℕ → ℕ → Symbol
  Sixteen : Symbol
  End : Symbol
  Past : Symbol
  Loose : Symbol
  Unknown : Symbol

-- a symbol with no category (Table F.2: 00 and F0 alone)
abbrev pub symbol_of_none : ℕ → Bool → ℕ → Symbol
symbol_of_none left loose zeros =
    if zeros == 0 then (if loose then Loose else End)
    else if zeros == 15 then (if nat_le left 16 then Past else Sixteen)
    else Unknown

-- a symbol, by the coefficients left and whether sixteen zeros came before it (F.2.2.2)
abbrev pub symbol_of : ℕ → Bool → ℕ → Symbol
symbol_of left loose symbol =
    if symbol % 16 == 0 then symbol_of_none left loose (symbol / 16)
    else if nat_lt 10 (symbol % 16) then Unknown
    else if nat_le left (symbol / 16) then Past
    else Value (symbol / 16) (symbol % 16)

-- the pad bit with one more, if they are equal (own)
abbrev pub pad_with : Option Bool → Bool → Option (Option Bool)
pad_with None bit = Some (Some bit)
pad_with (Some true) true = Some (Some true)
pad_with (Some true) false = None
pad_with (Some false) true = None
pad_with (Some false) false = Some (Some false)

-- and with several
abbrev pub pad_of : Option (Option Bool) → List Bool → Option (Option Bool)
pad_of None bits = None
pad_of (Some pad) [] = Some pad
pad_of (Some pad) (bit ∷ bits) = pad_of (pad_with pad bit) bits

-- the place after the marker of interval n, with which the bytes from a place on begin, without fill bytes (own); `end`
-- is where they end (E.1.4)
abbrev pub restart_of : ℕ → ℕ → ℕ → List ℕ → Result ℕ ScanRefusal
restart_of end place n [] = Err (refusals.ScanCut end)
restart_of end place n (byte ∷ []) =
    if byte == 255 then Err (refusals.ScanCut end) else Err (refusals.RestartBad place)
restart_of end place n (byte ∷ code ∷ rest) =
    if byte == 255 && code == 0xd0 + n % 8 then Ok (place + 2) else Err (refusals.RestartBad place)

-- the place after the marker of interval n at a place (E.1.4)
unfoldable pub restart_at : List ℕ → ℕ → ℕ → Result ℕ ScanRefusal
restart_at bytes n place = restart_of (length bytes) place n (drop place bytes)
