-- Laws on the public calls.
pub mod Parts
pub mod NextByte
pub mod WholeRun
