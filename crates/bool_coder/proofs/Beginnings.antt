-- A stream begins with a byte below 255, and gives each of its bools in turn.
use Rattle.std.proofs.Common.{◌≡◌, ℕ, ◌+◌, ◌*◌, ◌/◌, ◌^◌, ◌<◌, ◌⊎◌, inl, inr, Bool, List, ◌∷◌, ◌++◌, length, get_or, sym, ap, ◌∙◌, arith}
use Rattle.std.specs.List.{AllByRecursion}
use Rattle.std.specs.Int.Digits.{AllBelowBase}
use Rattle.std.proofs.lemmas.Nat.{div_below, pow_pos}
use Rattle.bool_coder.specs.BoolStream.{IsBool, opening, coded, stream}
use Rattle.bool_coder.specs.BoolReading.{first_bits, next_bit}
use Rattle.bool_coder.specs.DecoderSeen.{Seen, Reads, seen_bit}
use Rattle.bool_coder.proofs.FirstBits.{first_bits_shr, prefix_start}
use Rattle.bool_coder.proofs.Line.{coded-kept, opening-kept}
use Rattle.bool_coder.proofs.ReadBack.{length-stream, prefix_stream, read_in_turn}
use Rattle.bool_coder.proofs.BoolsTaken.{Reads-next}

-- no list has the empty stream, or one whose first byte is 255
pub no_stream : (bytes : List ℕ) (bools : List (ℕ × Bool)) → AllBelowBase 256 bytes → (length bytes ≡ 0) ⊎ (get_or bytes 0 0 ≡ 255) → AllByRecursion IsBool bools → bytes ≡ stream (coded bools) → ⊥
no_stream bytes bools small start all e =
    let i = coded bools in
    let kept = coded-kept opening bools all opening-kept in
    let bottom : i.bottom < 255 * 2 ^ i.shifts = omega (arith, kept.on_line, kept.wide) in
    let first : first_bits bytes 8 ≡ i.bottom / 2 ^ i.shifts = sym (first_bits_shr bytes 8 i.shifts) ∙ ap (λ n. n / 2 ^ i.shifts) (ap (λ l. first_bits l (8 + i.shifts)) e ∙ prefix_stream i kept) in
    elim start [
      | inl none ↦ omega (arith, none, ap length e, length-stream i)
      | inr high ↦ omega (arith, high, first, prefix_start bytes small, div_below i.bottom (2 ^ i.shifts) 255 (pow_pos i.shifts) bottom)
    ]

-- the bool of a stream that comes next
pub next_in_turn : (seen : Seen) (bools rest : List (ℕ × Bool)) (prob : ℕ) (bit : Bool) → Reads bools seen → AllByRecursion IsBool (bools ++ (prob, bit) ∷ rest)
    → seen.bytes ≡ stream (coded (bools ++ (prob, bit) ∷ rest)) → seen_bit seen prob ≡ bit
next_in_turn seen bools rest prob bit reads all e =
    Reads-next bools seen prob reads ∙ ap (λ (bytes : List ℕ). next_bit bytes (coded bools) prob) e ∙ read_in_turn bools rest prob bit all
