-- Laws of the refusals.
pub mod Every
pub mod Placed
