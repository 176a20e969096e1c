-- Demand 2, proved.
pub mod Asked
pub mod Written
pub mod AfterSet
pub mod Lines
pub mod Parsing
pub mod Entries
pub mod Same
pub mod Demand2
