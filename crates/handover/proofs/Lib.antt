pub mod FieldBytes
pub mod PadsSummed
