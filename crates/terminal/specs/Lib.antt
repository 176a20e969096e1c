-- What is said of text that is read.
pub mod Line
