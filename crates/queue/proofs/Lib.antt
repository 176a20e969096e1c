-- Laws of the queue.
pub mod Cases
pub mod Waiting
pub mod Valid
pub mod Preserved
pub mod Line
