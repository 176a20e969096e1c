-- What is written of a reply, and what a step leaves (§1.1, §12.4); Parts is what only inner functions are held to.
pub mod Buffer
pub mod Parts
pub mod After
