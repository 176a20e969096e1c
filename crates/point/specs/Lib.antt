-- What a point is (§7.1), what is sent for one (§8.1, §8.2), and the promise on it.
pub mod Single
pub mod Point
pub mod Bytes
pub mod Exact
