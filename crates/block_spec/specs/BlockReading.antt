-- Statement: the blocks that bytes give as a segment's stream, as a function of the bytes (docs/FORMAT.md, The stream).
use Rattle.std.specs.Prelude.{ℕ, zero, suc, Bool, List, [], ◌∷◌, ◌++◌, length, ℤ, Result, Ok, Err}
use Rattle.bool_coder.specs.BoolStream.{coded}
use Rattle.bool_coder.specs.BoolReading.{next_bit}
use Rattle.adapt_bins.specs.Events.{probability, bools_of}
use Rattle.block_spec.specs.Grid.{Grid, cell_at}
use Rattle.block_spec.specs.SegmentEvents.{segment_events, around_in, class_of}
use Rattle.block_spec.specs.declared.fault.BlockFault.{BlockFault}
use Rattle.block_spec.specs.Asking.{told_by}
use Rattle.block_spec.specs.AskedBlocks.{asked_block}

-- the bit that bytes give in a bin after events (RFC 6386, 7.3)
abbrev pub bit_given : List ℕ → List (ℕ × Bool) → ℕ → Bool
bit_given bytes events bin = next_bit bytes (coded (bools_of events)) (probability events bin)

-- the block that bytes give after a segment's blocks, or why there is none (own)
unfoldable pub block_read : Grid → List ℕ → List (List ℤ) → Result (List ℤ) BlockFault
block_read g bytes blocks =
    let cell = cell_at g (length blocks) in
    (told_by (bit_given bytes) (segment_events g blocks)
    (asked_block (class_of cell.component) (around_in g blocks cell))).0

-- what a function makes of a value, and a fault as it is (own)
abbrev pub and_then : {A B E : Type 0} → Result A E → (A → Result B E) → Result B E
and_then (Ok x) f = f x
and_then (Err fault) f = Err fault

-- the next `count` blocks, or the first fault (own)
unfoldable pub blocks_read : Grid → List ℕ → List (List ℤ) → ℕ
    → Result (List (List ℤ)) BlockFault
blocks_read g bytes blocks zero = Ok []
blocks_read g bytes blocks (suc count) =
    and_then (block_read g bytes blocks)
    (λ block. and_then (blocks_read g bytes (blocks ++ block ∷ []) count)
    (λ more. Ok (block ∷ more)))
