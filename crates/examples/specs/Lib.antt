-- The examples, and two scripts: §13.4, §13.7 and §13.8.
pub mod Examples
pub mod Scripts
