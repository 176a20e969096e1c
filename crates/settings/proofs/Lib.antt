-- Laws on the settings.
pub mod Numbers
pub mod Rows
pub mod Every
pub mod Parts
pub mod Phase
pub mod Start
pub mod Exact
pub mod Rounded
pub mod Invariant
pub mod Stands
pub mod Values
