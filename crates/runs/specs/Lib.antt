-- A run of bytes does what its bytes do one by one, and stops exactly by its rule (§2.9, §2.10).
pub mod Singly
