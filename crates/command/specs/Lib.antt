-- What a command's text means (§3.1, §3.6, §3.7); Parts is what only inner functions are held to.
pub mod Arguments
pub mod Parsed
pub mod Parts
