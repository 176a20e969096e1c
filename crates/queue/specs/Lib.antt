-- The queue of a line's bytes (§2.1, §2.2, §2.3): Queue, which a reader of the promises goes by, and Parts, which only
-- the code's inner functions are held to.
pub mod Queue
pub mod Parts
