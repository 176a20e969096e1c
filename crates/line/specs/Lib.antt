-- What a command and a line do: §2.6, §2.7 and §12.12.
pub mod Perform
pub mod Line
pub mod Parts
