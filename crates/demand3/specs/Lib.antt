-- Demand 3: what the script check says of every course through a script: §13.6, §13.7 and §13.8.
pub mod Course
pub mod Demand3
