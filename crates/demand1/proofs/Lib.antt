-- Demand 1, proved.
pub mod OneByOne
pub mod Demand1
