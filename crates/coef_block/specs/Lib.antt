pub mod Block
pub mod BlockInside
pub mod Categories
pub mod Nonzeros
pub mod RowsInside
pub mod BlockRows
pub mod Zigzag
