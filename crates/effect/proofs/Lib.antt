-- Laws on what a command changes.
pub mod After
