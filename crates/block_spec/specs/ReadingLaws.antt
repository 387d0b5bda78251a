-- Law: what holds of the blocks that bytes give (own).
use Rattle.std.specs.Prelude.{◌≡◌, ℕ, ◌<◌, List, ◌++◌, length, ℤ, Result, Ok, Err}
use Rattle.std.specs.List.{AllByRecursion}
use Rattle.coef_block.specs.Block.{IsBlock}
use Rattle.bool_coder.specs.BoolReading.{IsReading}
use Rattle.adapt_bins.specs.Events.{bools_of}
use Rattle.block_spec.specs.Grid.{Grid, IsGrid, cell_at}
use Rattle.block_spec.specs.SegmentEvents.{segment_events, around_in, class_of}
use Rattle.block_spec.specs.ReadBlocks.{IsRead}
use Rattle.block_spec.specs.declared.fault.BlockFault.{BlockFault}
use Rattle.block_spec.specs.BlockReading.{block_read, blocks_read}

-- the bytes have given these blocks as a segment's first ones
pub record HaveGiven (g : Grid) (bytes : List ℕ) (blocks : List (List ℤ)) : Type 0 where
  pub grid : IsGrid g
  pub each : AllByRecursion IsBlock blocks
  pub reading : IsReading bytes (bools_of (segment_events g blocks))

-- what they give next: this block's events, or those of this fault
abbrev pub GivesNext : Grid → List ℕ → List (List ℤ) → Result (List ℤ) BlockFault → Type 0
GivesNext g bytes blocks result =
    let cell = cell_at g (length blocks) in
    IsRead (λ events. IsReading bytes (bools_of (segment_events g blocks ++ events)))
    (class_of cell.component) (around_in g blocks cell) result

-- fewer than `count` blocks, and then this fault
pub record GivesFault (g : Grid) (bytes : List ℕ) (blocks : List (List ℤ)) (count : ℕ)
    (fault : BlockFault) : Type 0 where
  pub more : List (List ℤ)
  pub few : length more < count
  pub given : HaveGiven g bytes (blocks ++ more)
  pub next : GivesNext g bytes (blocks ++ more) (Err fault)

-- the block that is read is the one that the bytes give
abbrev pub ReadIsGiven : Type 0
ReadIsGiven =
    (g : Grid) (bytes : List ℕ) (blocks : List (List ℤ)) → HaveGiven g bytes blocks
    → GivesNext g bytes blocks (block_read g bytes blocks)

-- and what the bytes give is what is read
abbrev pub GivenIsRead : Type 0
GivenIsRead =
    (g : Grid) (bytes : List ℕ) (blocks : List (List ℤ)) (result : Result (List ℤ) BlockFault)
    → HaveGiven g bytes blocks → GivesNext g bytes blocks result
    → block_read g bytes blocks ≡ result

-- blocks that are read are blocks, and the bytes have given them
abbrev pub BlocksAreGiven : Type 0
BlocksAreGiven =
    (g : Grid) (bytes : List ℕ) (blocks more : List (List ℤ)) (count : ℕ)
    → HaveGiven g bytes blocks → blocks_read g bytes blocks count ≡ Ok more
    → (length more ≡ count) × HaveGiven g bytes (blocks ++ more)

-- blocks that the bytes have given are read
abbrev pub GivenBlocksAreRead : Type 0
GivenBlocksAreRead =
    (g : Grid) (bytes : List ℕ) (blocks more : List (List ℤ))
    → HaveGiven g bytes (blocks ++ more)
    → blocks_read g bytes blocks (length more) ≡ Ok more

-- a fault among the next blocks is read as it is given
abbrev pub FaultIsRead : Type 0
FaultIsRead =
    (g : Grid) (bytes : List ℕ) (blocks : List (List ℤ)) (count : ℕ) (fault : BlockFault)
    → GivesFault g bytes blocks count fault → blocks_read g bytes blocks count ≡ Err fault

-- and given as it is read
abbrev pub FaultIsGiven : Type 0
FaultIsGiven =
    (g : Grid) (bytes : List ℕ) (blocks : List (List ℤ)) (count : ℕ) (fault : BlockFault)
    → HaveGiven g bytes blocks → blocks_read g bytes blocks count ≡ Err fault
    → GivesFault g bytes blocks count fault
