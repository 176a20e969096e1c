-- Demand 2: a reply sent back sets the same value (§4.7); lines of several commands (§2.6).
pub mod Written
pub mod Demand2
pub mod Entries
pub mod Lines
