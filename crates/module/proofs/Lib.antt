-- Laws on a module's numbers.
pub mod Bounds
