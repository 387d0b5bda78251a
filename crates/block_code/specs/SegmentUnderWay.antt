-- Steps: a segment under way, between two MCUs: its grid, the rows in which neighbours are looked up, and what was
-- coded (own).
use Rattle.std.specs.Prelude.{◌≡◌, ℕ, ◌+◌, ◌*◌, ◌<◌, Bool, List, ◌++◌, ℤ, length, Err}
use Rattle.std.specs.List.{AllByRecursion}
use Rattle.coef_block.specs.Block.{IsBlock}
use Rattle.adapt_bins.specs.PutEvents.{PutsEvents}
use Rattle.adapt_bins.specs.GotEvents.{GetsEvents}
use Rattle.adapt_bins.specs.declared.put.Put.{Put}
use Rattle.adapt_bins.specs.declared.get.Get.{Get}
use Rattle.block_spec.specs.ReadBlocks.{IsRead}
use Rattle.block_spec.specs.declared.fault.BlockFault.{BlockFault}
use Rattle.coef_block.specs.BlockRows.{block_count}
use Rattle.block_spec.specs.Grid.{Grid, cell_at}
use Rattle.block_spec.specs.SegmentEvents.{segment_events, around_in, class_of}
use Rattle.coef_block.specs.BlockRows.{BlockRows}
use Rattle.block_spec.specs.HeldRows.{HoldBlocks}

-- the grid, the rows, and how many MCUs of this MCU row came before (own)
pub record UnderWay : Type 0 where
  pub grid : Grid
  pub rows : BlockRows
  pub before : ℕ

-- after these blocks of the segment the rows hold the neighbours of the next MCU's blocks (own)
pub record HoldsUpTo (segment : UnderWay) (done : List (List ℤ)) : Type 0 where
  pub row : ℕ
  pub count : length done
      ≡ (row * segment.grid.across + segment.before) * block_count segment.grid.mcu
  pub held : HoldBlocks segment.rows segment.grid done row

-- after these blocks the events of more blocks were put (own)
pub record PutsMore (old : Put) (g : Grid) (done : List (List ℤ)) (new : Put)
    (more : List (List ℤ)) : Type 0 where
  pub events : List (ℕ × Bool)
  pub are : segment_events g (done ++ more) ≡ segment_events g done ++ events
  pub puts : PutsEvents old events new

-- after these blocks the events of more blocks were read, and each is a block (own)
pub record GetsMore (old : Get) (g : Grid) (done : List (List ℤ)) (new : Get)
    (more : List (List ℤ)) : Type 0 where
  pub events : List (ℕ × Bool)
  pub are : segment_events g (done ++ more) ≡ segment_events g done ++ events
  pub gets : GetsEvents old events new
  pub blocks : AllByRecursion IsBlock more

-- after these blocks fewer than an MCU's were read, and then the events of a fault (own)
pub record GetsFault (old : Get) (g : Grid) (done : List (List ℤ)) (new : Get)
    (cause : BlockFault) : Type 0 where
  pub more : List (List ℤ)
  pub few : length more < block_count g.mcu
  pub blocks : AllByRecursion IsBlock more
  pub events : List (ℕ × Bool)
  pub are : segment_events g (done ++ more) ≡ segment_events g done ++ events
  pub fault : (let cell = cell_at g (length (done ++ more)) in
      IsRead (λ es. GetsEvents old (events ++ es) new) (class_of cell.component)
      (around_in g (done ++ more) cell) (Err cause))
