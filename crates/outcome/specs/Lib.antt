-- The refusals' numbers and bits, a line's answer (§2.7), and what calls report (§1.5).
pub mod Code
pub mod Answer
