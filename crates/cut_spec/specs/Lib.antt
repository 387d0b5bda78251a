pub mod Cuts
pub mod RowHandovers
pub mod Seams
pub mod HandedOver
pub mod HandoverLaws
pub mod SegmentRows
