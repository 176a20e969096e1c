-- What counts of a line's bytes, and its commands' texts (§2.5, §2.6).
pub mod Clean
pub mod Texts
