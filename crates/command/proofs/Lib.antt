-- Laws of a command's text.
pub mod Comma
pub mod Exact
pub mod Name
