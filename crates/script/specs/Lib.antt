-- What the script check says: §13.7 and §13.8.
pub mod Check
pub mod Parts
