mod BitCounts
pub mod BlockMasks
pub mod CategoryLemmas
pub mod Masks
pub mod Positions
pub mod RowIndexes
mod Shuffle
pub mod Zeros
