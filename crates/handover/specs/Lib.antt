pub mod Handovers
pub mod HandoverBytes
pub mod OneSpelling
pub mod HandoverInside
pub mod PadSums
pub mod ScanSums
