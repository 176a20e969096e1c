-- Laws on what a command needs of the state.
pub mod Limit
