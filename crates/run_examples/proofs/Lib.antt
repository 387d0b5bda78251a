pub mod LeastEncoded
pub mod WrittenPieces
