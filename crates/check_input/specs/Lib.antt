-- The input of the programs over the script check, and what they write on it: §14.1, §14.2 and §14.3.
pub mod Bytes
pub mod VerdictLine
pub mod Input
pub mod Whole
