-- The definitions that the contracts of `extreme_courses` cite: §13.2 and §13.9.
pub mod Model
pub mod Extremes
