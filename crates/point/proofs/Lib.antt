-- The laws and theorems of `point`.
pub mod Digits
pub mod Cases
pub mod Exact
pub mod Bytes
pub mod Examples
