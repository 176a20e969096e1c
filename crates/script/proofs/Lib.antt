-- Laws on the script check.
pub mod LoopStep
pub mod Script
