-- Laws on what is written of a reply.
pub mod Over
pub mod Points
pub mod Sending
pub mod After
