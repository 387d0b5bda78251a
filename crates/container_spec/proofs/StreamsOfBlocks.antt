-- The stream of blocks starts, and gives them.
use Rattle.std.proofs.Common.{◌≡◌, ℕ, zero, suc, ◌*◌, ◌/◌, ◌^◌, ◌<◌, inl, inr, Bool, true, List, [], ◌∷◌, length, get_or, refl, ap₂, arith, ℤ}
use Rattle.std.specs.Prelude.{◌&&◌}
use Rattle.std.specs.Int.{bytes_high_first}
use Rattle.std.specs.Int.Digits.{AllBelowBase}
use Rattle.std.specs.List.{AllByRecursion}
use Rattle.std.proofs.lemmas.Bool.{lt-ltb, cases_eq}
use Rattle.std.proofs.lemmas.Nat.{mod_below}
use Rattle.bit_list.specs.Bits.{IsByte}
use Rattle.coef_block.specs.Block.{IsBlock}
use Rattle.bool_coder.specs.BoolStream.{Interval, IsBool, coded, stream}
use Rattle.bool_coder.proofs.Beginnings.{no_stream}
use Rattle.bool_coder.proofs.Bytes.{byte_at_is}
use Rattle.bool_coder.proofs.ReadBack.{read_again}
use Rattle.adapt_bins.specs.Events.{bools_of}
use Rattle.block_spec.specs.Grid.{Grid, IsGrid}
use Rattle.block_spec.specs.SegmentEvents.{segment_events}
use Rattle.block_spec.proofs.ProbsOfBins.{probs_in}
use Rattle.block_spec.specs.ReadingLaws.{HaveGiven}
use Rattle.container_spec.specs.ScanStream.{blocks_stream, starts}

each_byte : (k n : ℕ) → AllByRecursion IsByte (bytes_high_first k n)
each_byte zero n = tt
each_byte (suc k) n =
    (rw (byte_at_is k n) (mod_below (n / 2 ^ (8 * k)) 256 (omega arith)), each_byte k n)

all_below : (xs : List ℕ) → AllByRecursion IsByte xs → AllBelowBase 256 xs
all_below [] each = tt
all_below (x ∷ xs) each = (each.0, all_below xs each.1)

stream_bytes : (i : Interval) → AllByRecursion IsByte (stream i)
unfolding stream
stream_bytes i = each_byte _ _

pub blocks_stream_bytes : (g : Grid) (blocks : List (List ℤ))
    → AllByRecursion IsByte (blocks_stream g blocks)
unfolding blocks_stream
blocks_stream_bytes g blocks = stream_bytes (coded (bools_of (segment_events g blocks)))

-- bytes that begin with one below 255
begins : (bytes : List ℕ) → AllByRecursion IsByte bytes → (length bytes ≡ 0 → ⊥)
    → (get_or bytes 0 0 ≡ 255 → ⊥) → starts bytes ≡ true
begins [] each some low = absurd (some refl)
begins (x ∷ xs) each some low =
    let below : x < 256 = each.0 in
    let other : x < 255 = elim (cases_eq x 255) [
      | inl e ↦ absurd (low e)
      | inr ne ↦ omega (arith, ne, below)
    ] in
    ap₂ (λ (a b : Bool). a && b) (lt-ltb 0 (suc (length xs)) (omega arith)) (lt-ltb x 255 other)

bools_start : (bools : List (ℕ × Bool)) → AllByRecursion IsBool bools
    → starts (stream (coded bools)) ≡ true
bools_start bools all =
    let bytes = stream (coded bools) in
    let each = stream_bytes (coded bools) in
    let none = no_stream bytes bools (all_below bytes each) in
    begins bytes each (λ e. none (inl e) all refl) (λ e. none (inr e) all refl)

pub blocks_stream_starts : (g : Grid) (blocks : List (List ℤ))
    → starts (blocks_stream g blocks) ≡ true
unfolding blocks_stream
blocks_stream_starts g blocks =
    let events = segment_events g blocks in bools_start (bools_of events) (probs_in events)

pub stream_gives : (g : Grid) (blocks : List (List ℤ)) → IsGrid g → AllByRecursion IsBlock blocks
    → HaveGiven g (blocks_stream g blocks) blocks
unfolding blocks_stream
stream_gives g blocks is each = record {
  grid = is;
  each = each;
  reading = let events = segment_events g blocks in read_again (bools_of events) (probs_in events);
}
