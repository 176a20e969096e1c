-- The points stored, over every call (§7.3, §7.9); TRIG and the trigger event (§7.6).
pub mod Points
pub mod Trigger
