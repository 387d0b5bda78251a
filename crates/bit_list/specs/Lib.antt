pub mod Bits
pub mod NumbersOfBits
pub mod Pieces
pub mod Units
pub mod BitsInside
pub mod BitLaws
pub mod BitSpans
pub mod Peeked
