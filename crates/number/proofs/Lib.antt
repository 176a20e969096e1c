-- Laws of number text, exact values and rounding.
pub mod Flag
pub mod Rounding
pub mod Exact
pub mod Places
pub mod Scan
pub mod Parsing
