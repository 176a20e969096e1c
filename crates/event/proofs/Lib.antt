-- Laws on events.
pub mod Preserved
pub mod Refused
