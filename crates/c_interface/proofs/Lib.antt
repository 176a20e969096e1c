-- What is read off the number of a script is what the check says, proved.
pub mod Counted
pub mod Read
