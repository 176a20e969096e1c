-- The command names and what each stands for (§3.1, §3.2); Parts is what only inner functions are held to.
pub mod Names
pub mod Parts
pub mod Words
