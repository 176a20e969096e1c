-- The examples, proved.
pub mod Examples
pub mod Scripts
