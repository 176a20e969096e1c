-- The laws of `status`.
pub mod Bits
pub mod Flags
pub mod Preserved
