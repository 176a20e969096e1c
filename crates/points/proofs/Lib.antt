-- The points stored, proved.
pub mod Slots
pub mod History
pub mod Replies
pub mod Trigger
pub mod Points
