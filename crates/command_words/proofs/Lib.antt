pub mod InRange
pub mod LeptonLemmas
pub mod Reading
pub mod RowLemmas
pub mod RowsKept
mod Narrowed
