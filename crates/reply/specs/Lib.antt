-- What a query replies: §5.1, §8.1 and §10.2; Parts is what only inner functions are held to.
pub mod Reply
pub mod Text
pub mod Parts
