-- Laws on commands and lines.
pub mod Effects
pub mod Steps
pub mod LoopStep
pub mod DryPass
pub mod Bytes
pub mod Brief
pub mod Sized
pub mod MustFit
