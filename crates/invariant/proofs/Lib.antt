-- The invariant, proved.
pub mod Storable
pub mod Change
pub mod Command
pub mod States
pub mod StaysValid
pub mod Bytes
pub mod Meanings
pub mod OneCommand
pub mod Band
