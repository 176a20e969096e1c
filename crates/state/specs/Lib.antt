-- The state of a module (§1.2), what changes it as a whole, and which states are valid (§12.11).
pub mod State
pub mod Storing
pub mod Valid
