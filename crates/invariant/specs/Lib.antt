-- The invariant: what the machine can hold, that valid modules stay valid (§12.11), and what stays inside the band
-- (§6.5).
pub mod Representable
pub mod States
pub mod StaysValid
pub mod Band
