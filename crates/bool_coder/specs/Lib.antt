pub mod BoolStream
pub mod PlainLine
pub mod BoolReading
pub mod DecoderSeen
pub mod DecoderInside
pub mod EncoderInside
