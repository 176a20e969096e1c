-- A run of bytes does what its bytes do one by one, proved.
pub mod Singly
