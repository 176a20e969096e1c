-- A verdict, the same in numbers (§13.7, §13.8) and as one number, and what is read off it (§14.4).
pub mod Verdict
pub mod Numbers
pub mod PackedNumber
