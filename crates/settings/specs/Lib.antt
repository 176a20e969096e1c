-- What the settings are (§5.1), and the rules that bind them (§5.2, §5.3, §6.3, §6.5, §6.6). Exact and Invariant are
-- promises, Parts is what only inner functions are held to.
pub mod Limits
pub mod Table
pub mod Frequency
pub mod Setting
pub mod Valid
pub mod Parts
pub mod Exact
pub mod Invariant
