-- Laws of a line's bytes that count.
pub mod Kept
pub mod Bound
