-- What is said of operations and of the words for the values of fields.
pub mod Words
pub mod Sizes
