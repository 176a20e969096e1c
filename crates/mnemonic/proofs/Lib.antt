-- Laws of the list of names.
pub mod Rule
pub mod Words
