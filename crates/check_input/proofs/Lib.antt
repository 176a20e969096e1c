-- Laws on the input of the programs over the script check, and on the digits of the numbers that they write.
pub mod Sequence
pub mod Capacity
pub mod Whole
pub mod Pieces
pub mod Decimal
