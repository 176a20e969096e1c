-- Laws on the state.
pub mod Sound
