pub mod Runs
pub mod BinNumbers
pub mod ValueBins
pub mod BinBases
