-- What is read off the script check's answer: §14.4.
pub mod Read
