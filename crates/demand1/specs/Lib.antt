-- Demand 1: what is refused changes nothing but its error bit (§1.1).
pub mod Demand1
