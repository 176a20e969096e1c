-- Laws on replies.
pub mod Sends
pub mod Texts
