-- The laws of `storage`.
pub mod Valid
pub mod Preserved
